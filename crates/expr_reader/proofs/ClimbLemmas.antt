-- Closing what a token does not go on with.
use Rattle.std.proofs.Common.{Bool, true, false, cond, sym, ◌∙◌, ap, subst, ◌<◌, ◌≤◌, ◌+◌, length, drop, get_or, option_and_then, is_some, nat_le, ◌≡◌, ◌≢◌, ℕ, List, [], ◌∷◌, Option, Some, None, refl, arith}
use Rattle.std.proofs.lemmas.Bool.{le-leb, lt-leb, leb-true, leb-false}
use Rattle.expr_reader.specs.TokenNames.{Token}
use Rattle.expr_reader.specs.Terms.{Language, Production, Symbol, xpath, whole_expr, whole_sequence_type}
use Rattle.expr_reader.specs.RawNames.{Raw}
use Rattle.expr_terms.specs.declared.choices.Second.{Second}
use Rattle.expr_terms.specs.Choices.{second_of}
use Rattle.expr_terms.specs.Raws.{build}
use Rattle.expr_grammar.specs.Machine.{Frame, doing, stuck, moved, through, along, advance, skips, finish, run, start}
use Rattle.expr_reader.specs.View.{with_value}
use Rattle.expr_terms.specs.Nest.{raw_nest_of}
use Rattle.expr_grammar.specs.declared.expr_nest.measures.Measure.{Measure}
use Rattle.expr_grammar.specs.declared.expr_nest.measures.Measure.TheVariants.{Whole, Predicates}
use Rattle.expr_grammar.specs.ExprNest.Measures.{nest_by, predicate_nest_of}
use Rattle.expr_grammar.proofs.ExprNest.Keeps.{parts_nest_no_deeper}
use Rattle.expr_reader.specs.declared.readings.Reading.{Reading}
use Rattle.expr_reader.specs.declared.readings.Reading.TheVariants.{Value, Nothing, TooDeep}
use Rattle.expr_reader.specs.Outline.{outline, outlines, topmost_held, Sinks}
use Rattle.expr_reader.specs.Answers.{within, within_by, Parsed, ParsedAsPattern, ParsedType, Advanced, Judged, Finished}
use Rattle.expr_reader.proofs.Outline.{advance-outline, finish-outline, run-outline}
use Rattle.expr_reader.proofs.ViewLemmas.{views}
use Rattle.expr_grammar.proofs.Run.{runs_spells, refused, runs_spells_type, refused_type}
use Rattle.expr_reader.proofs.PartLemmas.{drop_past, drop_next}

pub advance_stuck : (l : Language) (t : Token) (s : Second) (fs : List Frame) (p : Production) (vs : List Raw) (ss : List Symbol) → along l t s p vs fs ss ≡ stuck → advance l t s (doing p vs ss ∷ fs) ≡ None
advance_stuck l t s [] p vs ss e = rw e refl
advance_stuck l t s (doing q us rs ∷ fs) p vs ss e = rw e refl

pub advance_moved : (l : Language) (t : Token) (s : Second) (fs gs : List Frame) (p : Production) (vs : List Raw) (ss : List Symbol) → along l t s p vs fs ss ≡ moved gs → advance l t s (doing p vs ss ∷ fs) ≡ Some gs
advance_moved l t s [] gs p vs ss e = rw e refl
advance_moved l t s (doing q us rs ∷ fs) gs p vs ss e = rw e refl

pub advance_through : (l : Language) (t : Token) (s : Second) (fs : List Frame) (p : Production) (vs : List Raw) (ss : List Symbol) → along l t s p vs fs ss ≡ through → advance l t s (doing p vs ss ∷ fs) ≡ advance l t s (with_value (build p vs) fs)
advance_through l t s [] p vs ss e = rw e refl
advance_through l t s (doing q us rs ∷ fs) p vs ss e = rw e refl

outline_with : (v : Raw) (fs : List Frame) → outline (with_value v fs) ≡ outline fs
outline_with v [] = refl
outline_with v (doing q us rs ∷ fs) = refl

wrong : {P : Type 0} → true ≡ false → P
wrong e = cc

-- where the token has led so far
pub record Going (m : Measure) (k : ℕ) (was deep : Bool) (l : Language) (t : Token) (s : Second) (old now : List Frame) : Type 0 where
  pub outlined : outlines (advance l t s old) ≡ outlines (advance l t s now)
  pub exact : deep ≡ false → advance l t s old ≡ advance l t s now
  pub sinks : was ≡ false → deep ≡ true → Sinks m k l t s old
  pub stays : was ≡ true → deep ≡ true

pub going_at : (m : Measure) (k : ℕ) (was deep : Bool) (l : Language) (t : Token) (s : Second) (old now new : List Frame) → Going m k was deep l t s old now → now ≡ new → Going m k was deep l t s old new
going_at m k was deep l t s old now new g e = subst (λ x. Going m k was deep l t s old x) e g

pub going_begin : (m : Measure) (k : ℕ) (was : Bool) (l : Language) (t : Token) (s : Second) (fs : List Frame) → Going m k was was l t s fs fs
going_begin m k was l t s fs = record { outlined = refl; exact = λ e. refl; sinks = λ a b. wrong (sym b ∙ a); stays = λ e. e }

pub none_outlined : (o : Option (List Frame)) → outlines o ≡ None → o ≡ None
none_outlined None e = refl
none_outlined (Some fs) e = absurd cc

pub going_none : (m : Measure) (k : ℕ) (was deep : Bool) (l : Language) (t : Token) (s : Second) (old now new : List Frame) → Going m k was deep l t s old now → advance l t s now ≡ None → Advanced false m k was deep l t s old new
going_none m k was deep l t s old now new g e = record { outlined = none_outlined _ (g.outlined ∙ ap outlines e); exact = λ d. g.exact d ∙ e; sinks = g.sinks; stays = g.stays }

pub going_stuck : (m : Measure) (k : ℕ) (was deep : Bool) (l : Language) (t : Token) (s : Second) (old fs new : List Frame) (p : Production) (vs : List Raw) (ss : List Symbol) → Going m k was deep l t s old (doing p vs ss ∷ fs) → along l t s p vs fs ss ≡ stuck → Advanced false m k was deep l t s old new
going_stuck m k was deep l t s old fs new p vs ss g e = going_none m k was deep l t s old (doing p vs ss ∷ fs) new g (advance_stuck l t s fs p vs ss e)

pub going_moved : (m : Measure) (k : ℕ) (was deep : Bool) (l : Language) (t : Token) (s : Second) (old fs new : List Frame) (p : Production) (vs : List Raw) (ss : List Symbol) → Going m k was deep l t s old (doing p vs ss ∷ fs) → along l t s p vs fs ss ≡ moved new → Advanced true m k was deep l t s old new
going_moved m k was deep l t s old fs new p vs ss g e =
    let a = advance_moved l t s fs new p vs ss e in
    record { outlined = g.outlined ∙ ap outlines a; exact = λ d. g.exact d ∙ a; sinks = g.sinks; stays = g.stays }

pub going_kept : (m : Measure) (k : ℕ) (was deep : Bool) (l : Language) (t : Token) (s : Second) (old fs : List Frame) (p : Production) (vs : List Raw) (ss : List Symbol) → Going m k was deep l t s old (doing p vs ss ∷ fs) → along l t s p vs fs ss ≡ through → Going m k was deep l t s old (with_value (build p vs) fs)
going_kept m k was deep l t s old fs p vs ss g e =
    let a = advance_through l t s fs p vs ss e in
    record { outlined = g.outlined ∙ ap outlines a; exact = λ d. g.exact d ∙ a; sinks = g.sinks; stays = g.stays }

-- a production that has too much
topmost_sinks : (m : Measure) (k : ℕ) (l : Language) (ts : List Token) (fs : List Frame) (w : Raw) → k < topmost_held m fs → run l ts fs ≡ Some w → k < nest_by m w
topmost_sinks m k l ts [] w h e = absurd (omega arith)
topmost_sinks m k l ts (doing q us rs ∷ fs) w h e = let n = parts_nest_no_deeper m l ts q us rs fs w e in omega arith

-- productions that the value passes are closed
pub going_passed : (m : Measure) (k : ℕ) (was deep : Bool) (l : Language) (t : Token) (s : Second) (old fs gs : List Frame) (v : Raw) → Going m k was deep l t s old (with_value v fs) → advance l t s (with_value v fs) ≡ advance l t s (with_value v gs) → Going m k was deep l t s old (with_value v gs)
going_passed m k was deep l t s old fs gs v g e = record { outlined = g.outlined ∙ ap outlines e; exact = λ d. g.exact d ∙ e; sinks = g.sinks; stays = g.stays }

pub going_dropped : (m : Measure) (k : ℕ) (was deep : Bool) (l : Language) (t : Token) (s : Second) (old fs : List Frame) (v : Raw) → Going m k was deep l t s old (with_value v fs) → (deep ≡ false → k < topmost_held m (with_value v fs)) → Going m k was true l t s old fs
going_dropped m k was deep l t s old fs v g h = record { outlined = g.outlined ∙ advance-outline l t s (with_value v fs) fs (outline_with v fs); exact = λ d. wrong d; sinks = λ a b. sinks deep g h a; stays = λ a. refl }
  where
    sinks : (b : Bool) → Going m k was b l t s old (with_value v fs) → (b ≡ false → k < topmost_held m (with_value v fs)) → was ≡ false → Sinks m k l t s old
    sinks true g h w = g.sinks w refl
    sinks false g h w = λ ts x n r.
        let same : advance l t (second_of ts) old ≡ advance l t (second_of ts) (with_value v fs) = rw n (g.exact refl) in
        topmost_sinks m k l (t ∷ ts) (with_value v fs) x (h refl) (rw same at r)

pub going_nowhere : (m : Measure) (k : ℕ) (was deep : Bool) (l : Language) (t : Token) (s : Second) (old fs new : List Frame) (v : Raw) → Going m k was deep l t s old (with_value v fs) → fs ≡ [] → Advanced false m k was deep l t s old new
going_nowhere m k was deep l t s old fs new v g n = going_none m k was deep l t s old (with_value v fs) new g (ap (λ x. advance l t s (with_value v x)) n)

pub ruleset climbing = (views, going_begin, going_none, going_stuck, going_moved, going_passed, going_nowhere, going_kept, going_dropped)

pub finish_stuck : (p : Production) (vs : List Raw) (ss : List Symbol) (fs : List Frame) → skips ss ≡ false → finish (doing p vs ss ∷ fs) ≡ None
finish_stuck p vs ss [] e = rw e refl
finish_stuck p vs ss (doing q us rs ∷ fs) e = rw e refl

pub finish_last : (p : Production) (vs : List Raw) (ss : List Symbol) → skips ss ≡ true → finish (doing p vs ss ∷ []) ≡ Some (build p vs)
finish_last p vs ss e = rw e refl

pub finish_next : (p : Production) (vs : List Raw) (ss : List Symbol) (fs : List Frame) → skips ss ≡ true → fs ≢ [] → finish (doing p vs ss ∷ fs) ≡ finish (with_value (build p vs) fs)
finish_next p vs ss [] e h = absurd (h refl)
finish_next p vs ss (doing q us rs ∷ fs) e h = rw e refl

-- how far the open productions are closed at the end
pub record Ending (m : Measure) (k : ℕ) (was deep : Bool) (old now : List Frame) : Type 0 where
  pub outlined : is_some (finish old) ≡ is_some (finish now)
  pub exact : deep ≡ false → finish old ≡ finish now
  pub sinks : was ≡ false → deep ≡ true → (w : Raw) → finish old ≡ Some w → k < nest_by m w
  pub stays : was ≡ true → deep ≡ true

pub ending_at : (m : Measure) (k : ℕ) (was deep : Bool) (old now new : List Frame) → Ending m k was deep old now → now ≡ new → Ending m k was deep old new
ending_at m k was deep old now new g e = subst (λ x. Ending m k was deep old x) e g

pub ending_begin : (m : Measure) (k : ℕ) (was : Bool) (fs : List Frame) → Ending m k was was fs fs
ending_begin m k was fs = record { outlined = refl; exact = λ e. refl; sinks = λ a b. wrong (sym b ∙ a); stays = λ e. e }

no_value : (o : Option Raw) → is_some o ≡ false → o ≡ None
no_value None e = refl
no_value (Some v) e = wrong e

pub ending_none : (m : Measure) (k : ℕ) (was deep : Bool) (old now : List Frame) → Ending m k was deep old now → finish now ≡ None → Finished Nothing m k was old
ending_none m k was deep old now g e = no_value _ (g.outlined ∙ ap is_some e)

pub ending_stuck : (m : Measure) (k : ℕ) (was deep : Bool) (old fs : List Frame) (p : Production) (vs : List Raw) (ss : List Symbol) → Ending m k was deep old (doing p vs ss ∷ fs) → skips ss ≡ false → Finished Nothing m k was old
ending_stuck m k was deep old fs p vs ss g e = ending_none m k was deep old (doing p vs ss ∷ fs) g (finish_stuck p vs ss fs e)

pub ending_kept : (m : Measure) (k : ℕ) (was deep : Bool) (old fs : List Frame) (p : Production) (vs : List Raw) (ss : List Symbol) → Ending m k was deep old (doing p vs ss ∷ fs) → skips ss ≡ true → fs ≢ [] → Ending m k was deep old (with_value (build p vs) fs)
ending_kept m k was deep old fs p vs ss g e n =
    let a = finish_next p vs ss fs e n in
    record { outlined = g.outlined ∙ ap is_some a; exact = λ d. g.exact d ∙ a; sinks = g.sinks; stays = g.stays }

pub ending_dropped : (m : Measure) (k : ℕ) (was deep : Bool) (old fs : List Frame) (p : Production) (vs : List Raw) (ss : List Symbol) → Ending m k was deep old (doing p vs ss ∷ fs) → skips ss ≡ true → fs ≢ [] → (deep ≡ false → k < topmost_held m (with_value (build p vs) fs)) → Ending m k was true old fs
ending_dropped m k was deep old fs p vs ss g e n h = record { outlined = g.outlined ∙ ap is_some a ∙ finish-outline (with_value (build p vs) fs) fs (outline_with (build p vs) fs); exact = λ d. wrong d; sinks = λ a b. sinks deep g h a; stays = λ a. refl }
  where
    a : finish (doing p vs ss ∷ fs) ≡ finish (with_value (build p vs) fs)
    a = finish_next p vs ss fs e n

    sinks : (b : Bool) → Ending m k was b old (doing p vs ss ∷ fs) → (b ≡ false → k < topmost_held m (with_value (build p vs) fs)) → was ≡ false → (w : Raw) → finish old ≡ Some w → k < nest_by m w
    sinks true g h w = g.sinks w refl
    sinks false g h w = λ v r. topmost_sinks m k xpath [] (with_value (build p vs) fs) v (h refl) (sym (g.exact refl ∙ a) ∙ r)

pub ending_judged : (m : Measure) (k : ℕ) (was deep : Bool) (old fs : List Frame) (p : Production) (vs : List Raw) (ss : List Symbol) (r : Reading) → Ending m k was deep old (doing p vs ss ∷ fs) → skips ss ≡ true → fs ≡ [] → Judged r (build p vs) m k deep → Finished r m k was old
ending_judged m k was deep old fs p vs ss r g e n j = go r j
  where
    last : finish (doing p vs ss ∷ fs) ≡ Some (build p vs)
    last = ap (λ x. finish (doing p vs ss ∷ x)) n ∙ finish_last p vs ss e

    some_same : {v w : Raw} → Some v ≡ Some w → v ≡ w
    some_same e = cc

    deeper : (b : Bool) → Ending m k was b old (doing p vs ss ∷ fs) → (b ≡ false → k < nest_by m (build p vs)) → was ≡ false → (w : Raw) → finish old ≡ Some w → k < nest_by m w
    deeper true g h w = g.sinks w refl
    deeper false g h w = λ v r. subst (λ x. k < nest_by m x) (some_same (sym (g.exact refl ∙ last) ∙ r)) (h refl)

    was_not : (a b : Bool) → (a ≡ true → b ≡ true) → b ≡ false → a ≡ false
    was_not true b f e = wrong (sym (f refl) ∙ e)
    was_not false b f e = refl

    go : (r : Reading) → Judged r (build p vs) m k deep → Finished r m k was old
    go Nothing j = absurd j
    go (Value v) j = (was_not was deep g.stays j.0, g.exact j.0 ∙ last ∙ ap Some (sym j.1), subst (λ x. nest_by m x ≤ k) (sym j.1) j.2)
    go TooDeep j = (g.outlined ∙ ap is_some last, deeper deep g j)

pub ruleset finishing = (views, ending_begin, ending_none, ending_stuck, ending_kept, ending_dropped, ending_judged)

pub run_next : (l : Language) (ts : List Token) (i : ℕ) (t : Token) (fs : List Frame) → i < length ts → run l (drop i ts) fs ≡ option_and_then (run l (drop (i + 1) ts)) (advance l (get_or ts i t) (second_of (drop (i + 1) ts)) fs)
run_next l ts i t fs h = rw (drop_next ts i t h) refl

-- what has been read of the tokens so far
pub record Reads (m : Measure) (k : ℕ) (l : Language) (deep : Bool) (all rest : List Token) (first now : List Frame) : Type 0 where
  pub outlined : is_some (run l all first) ≡ is_some (run l rest now)
  pub exact : deep ≡ false → run l all first ≡ run l rest now
  pub sinks : deep ≡ true → (w : Raw) → run l all first ≡ Some w → k < nest_by m w

pub reads_begin : (m : Measure) (k : ℕ) (l : Language) (ts : List Token) (fs : List Frame) → Reads m k l false ts ts fs fs
reads_begin m k l ts fs = record { outlined = refl; exact = λ e. refl; sinks = λ e. wrong (sym e) }

pub reads_none : (m : Measure) (k : ℕ) (l : Language) (was deep : Bool) (all rest : List Token) (t : Token) (s : Second) (first now new : List Frame) → Reads m k l was all (t ∷ rest) first now → s ≡ second_of rest → Advanced false m k was deep l t s now new → within_by m k (run l all first) ≡ Nothing
reads_none m k l was deep all rest t s first now new r e a = ap (within_by m k) (no_value _ (r.outlined ∙ none))
  where
    none : is_some (option_and_then (run l rest) (advance l t (second_of rest) now)) ≡ false
    none = rw (sym e, a.outlined) refl

pub reads_next : (m : Measure) (k : ℕ) (l : Language) (was deep : Bool) (all rest : List Token) (t : Token) (s : Second) (first now new : List Frame) → Reads m k l was all (t ∷ rest) first now → s ≡ second_of rest → Advanced true m k was deep l t s now new → Reads m k l deep all rest first new
reads_next m k l was deep all rest t s first now new r e a = record { outlined = r.outlined ∙ led (advance l t (second_of rest) now) (rw e at a.outlined); exact = exact was r a; sinks = sinks was r a }
  where
    some_same : {x y : List Frame} → Some x ≡ Some y → x ≡ y
    some_same e = cc

    led : (o : Option (List Frame)) → outlines o ≡ Some (outline new) → is_some (option_and_then (run l rest) o) ≡ is_some (run l rest new)
    led None e = absurd cc
    led (Some hs) e = run-outline l rest hs new (some_same e)

    exact : (b : Bool) → Reads m k l b all (t ∷ rest) first now → Advanced true m k b deep l t s now new → deep ≡ false → run l all first ≡ run l rest new
    exact true r a d = wrong (sym (a.stays refl) ∙ d)
    exact false r a d = r.exact refl ∙ ap (option_and_then (run l rest)) (rw e at (a.exact d))

    sinks : (b : Bool) → Reads m k l b all (t ∷ rest) first now → Advanced true m k b deep l t s now new → deep ≡ true → (w : Raw) → run l all first ≡ Some w → k < nest_by m w
    sinks true r a d = r.sinks refl
    sinks false r a d = λ w q. a.sinks refl d rest w (sym e) (sym (r.exact refl) ∙ q)

pub reads_step : (m : Measure) (k : ℕ) (l : Language) (was deep : Bool) (all : List Token) (i : ℕ) (t : Token) (s : Second) (first now new : List Frame) → i < length all → Reads m k l was all (drop i all) first now → s ≡ second_of (drop (i + 1) all) → t ≡ get_or all i t → Advanced true m k was deep l t s now new → Reads m k l deep all (drop (i + 1) all) first new
reads_step m k l was deep all i t s first now new h r e at_i a = reads_next m k l was deep all (drop (i + 1) all) t s first now new (subst (λ x. Reads m k l was all x first now) (drop_next all i t h ∙ ap (λ x. x ∷ drop (i + 1) all) (sym at_i)) r) e a

pub reads_end : (m : Measure) (k : ℕ) (l : Language) (deep : Bool) (all rest : List Token) (first now : List Frame) (x : Reading) → Reads m k l deep all rest first now → rest ≡ [] → Finished x m k deep now → x ≡ within_by m k (run l all first)
reads_end m k l deep all rest first now x r n f = go x f
  where
    last : run l rest now ≡ finish now
    last = ap (λ ts. run l ts now) n

    within_value : (v : Raw) → nest_by m v ≤ k → Value v ≡ within_by m k (Some v)
    within_value v h = rw (leb-from k v h) refl
      where
        leb-from : (k : ℕ) (v : Raw) → nest_by m v ≤ k → nat_le (nest_by m v) k ≡ true
        leb-from k v h = le-leb _ _ h

    past : (o : Option Raw) → is_some o ≡ true → ((w : Raw) → o ≡ Some w → k < nest_by m w) → TooDeep ≡ within_by m k o
    past None e h = wrong (sym e)
    past (Some w) e h = rw (lt-leb _ _ (h w refl)) refl

    deeper : (b : Bool) → Reads m k l b all rest first now → (b ≡ false → (w : Raw) → finish now ≡ Some w → k < nest_by m w) → (w : Raw) → run l all first ≡ Some w → k < nest_by m w
    deeper true r h = r.sinks refl
    deeper false r h = λ w q. h refl w (sym (r.exact refl ∙ last) ∙ q)

    go : (x : Reading) → Finished x m k deep now → x ≡ within_by m k (run l all first)
    go Nothing f = sym (ap (within_by m k) (no_value _ (r.outlined ∙ ap is_some (last ∙ f))))
    go (Value v) f = within_value v f.2 ∙ sym (ap (within_by m k) (r.exact f.0 ∙ last ∙ f.1))
    go TooDeep f = past (run l all first) (r.outlined ∙ ap is_some last ∙ f.0) (deeper deep r f.1)

pub ruleset running = (views, drop_next, drop_past, reads_begin, reads_none, reads_next, reads_end)

by_whole : (k : ℕ) (o : Option Raw) → within_by Whole k o ≡ within k o
by_whole k None = refl
by_whole k (Some v) = refl

pub value_whole : (k : ℕ) (o : Option Raw) (r : Reading) → r ≡ within_by Whole k o → r ≡ within k o
value_whole k o r e = e ∙ by_whole k o

pub parsed : (k : ℕ) (l : Language) (ts : List Token) (r : Reading) → r ≡ within_by Whole k (run l ts (start whole_expr)) → Parsed l ts k r
parsed k l ts r e = rw e (go (run l ts (start whole_expr)) refl)
  where
    go : (o : Option Raw) → run l ts (start whole_expr) ≡ o → Parsed l ts k (within_by Whole k o)
    go None f = λ v s. refused f v s
    go (Some v) f = judge (nat_le (raw_nest_of v) k) refl
      where
        judge : (b : Bool) → nat_le (raw_nest_of v) k ≡ b → Parsed l ts k (cond b (Value v) TooDeep)
        judge true c = (runs_spells f, leb-true _ _ c)
        judge false c = (v, (runs_spells f, leb-false _ _ c))

pub parsed_pattern : (k : ℕ) (l : Language) (ts : List Token) (r : Reading) → r ≡ within_by Predicates k (run l ts (start whole_expr)) → ParsedAsPattern l ts k r
parsed_pattern k l ts r e = rw e (go (run l ts (start whole_expr)) refl)
  where
    go : (o : Option Raw) → run l ts (start whole_expr) ≡ o → ParsedAsPattern l ts k (within_by Predicates k o)
    go None f = λ v s. refused f v s
    go (Some v) f = judge (nat_le (predicate_nest_of v) k) refl
      where
        judge : (b : Bool) → nat_le (predicate_nest_of v) k ≡ b → ParsedAsPattern l ts k (cond b (Value v) TooDeep)
        judge true c = (runs_spells f, leb-true _ _ c)
        judge false c = (v, (runs_spells f, leb-false _ _ c))

pub parsed_type : (k : ℕ) (l : Language) (ts : List Token) (r : Reading) → r ≡ within_by Whole k (run l ts (start whole_sequence_type)) → ParsedType l ts k r
parsed_type k l ts r e = rw e (go (run l ts (start whole_sequence_type)) refl)
  where
    go : (o : Option Raw) → run l ts (start whole_sequence_type) ≡ o → ParsedType l ts k (within_by Whole k o)
    go None f = λ v s. refused_type f v s
    go (Some v) f = judge (nat_le (raw_nest_of v) k) refl
      where
        judge : (b : Bool) → nat_le (raw_nest_of v) k ≡ b → ParsedType l ts k (cond b (Value v) TooDeep)
        judge true c = (runs_spells_type f, leb-true _ _ c)
        judge false c = (v, (runs_spells_type f, leb-false _ _ c))

pub ruleset answers = (value_whole, parsed, parsed_pattern, parsed_type)
