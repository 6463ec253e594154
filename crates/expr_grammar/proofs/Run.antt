-- All of the tokens: what is spelled is read, what is read is spelled, and there is one value at most.
use Rattle.std.proofs.Common.{◌≡◌, Bool, true, false, cond, List, [], ◌∷◌, ◌++◌, append-nil, refl, sym, ◌∙◌, ap, subst, Option, Some, None, option_and_then}
use Rattle.std.proofs.lemmas.Option.{none-some, same_Some}
use Rattle.expr_terms.specs.Choices.{second_of}
use Rattle.expr_grammar.specs.TokenNames.{Token}
use Rattle.expr_grammar.specs.Terms.{Language, whole, Symbol, tok, one, maybe, many, longest, Production, whole_expr, xpath, xquery, whole_type, whole_sequence_type}
use Rattle.expr_terms.specs.Productions.{body, head, speaks}
use Rattle.expr_grammar.specs.RawNames.{Raw}
use Rattle.expr_terms.specs.Raws.{build}
use Rattle.expr_grammar.specs.Grammar.{Derives, by, Seq, end, next, without, with, stop, again, bare, given, Spells, SpellsType}
use Rattle.expr_grammar.specs.Machine.{Frame, doing, advance, skips, ended, finish, run, start, read_whole, read_type}
use Rattle.expr_grammar.proofs.Residue.{Feeds, over, Awaits, Rest, IsSound, starts, fed, feed}
use Rattle.expr_grammar.proofs.Steps.{Steps, steps}

record AtEnd (ss : List Symbol) (us : List Raw) (mid : List Token) : Type 0 where
  skip : skips ss ≡ true
  no_values : us ≡ []
  no_tokens : mid ≡ []

at_end : {l : Language} {ss : List Symbol} {us : List Raw} {mid : List Token} → Seq l ss [] us mid → AtEnd ss us mid
at_end end = record { skip = refl; no_values = refl; no_tokens = refl }
at_end (next d s) = absurd (starts d)
at_end (with d s) = absurd (starts d)
at_end (without s) = let e = at_end s in record { skip = e.skip; no_values = e.no_values; no_tokens = e.no_tokens }
at_end (again d s) = absurd (starts d)
at_end (stop s) = let e = at_end s in record { skip = e.skip; no_values = e.no_values; no_tokens = e.no_tokens }
at_end (given e d s) = absurd (starts d)
at_end (bare e s) = let e = at_end s in record { skip = e.skip; no_values = e.no_values; no_tokens = e.no_tokens }

never : {P : Type 0} → false ≡ true → P
never e = cc

skipped : {l : Language} (ss : List Symbol) → skips ss ≡ true → Seq l ss [] [] []
skipped [] e = end
skipped (tok c ∷ ss) e = never e
skipped (one n ∷ ss) e = never e
skipped (maybe n ∷ ss) e = without (skipped ss e)
skipped (many n ∷ ss) e = stop (skipped ss e)
skipped (longest n ∷ ss) e = bare refl (skipped ss e)

closed : {l : Language} {w : Raw} {p : Production} {vs : List Raw} {ss : List Symbol} {fs : List Frame} → Awaits l w p vs ss fs [] → (skips ss ≡ true) × Feeds l w fs (build p vs) []
closed {l = l} {w = w} {p = p} {vs = vs} {fs = fs} a =
    let e = at_end a.first in
    let k : Feeds l w fs (build p (vs ++ [])) [] = rw (e.no_values, e.no_tokens) at a.after in
    (e.skip, rw append-nil at k)

unclosed : {l : Language} {w : Raw} {p : Production} {vs : List Raw} {ss : List Symbol} {fs : List Frame} → skips ss ≡ true → Feeds l w fs (build p vs) [] → Awaits l w p vs ss fs []
unclosed {ss = ss} e k = record { values = []; mid = []; first = skipped ss e; after = rw append-nil k }

over_same : {l : Language} {w v : Raw} → Feeds l w [] v [] → v ≡ w
over_same over = refl

cond_gives : (b : Bool) (x w : Raw) → cond b (Some x) None ≡ Some w → (b ≡ true) × (x ≡ w)
cond_gives true x w e = (refl, same_Some _ _ e)
cond_gives false x w e = absurd (none-some _ e)

cond_passes : (b : Bool) (o : Option Raw) (w : Raw) → cond b o None ≡ Some w → (b ≡ true) × (o ≡ Some w)
cond_passes true o w e = (refl, e)
cond_passes false o w e = absurd (none-some _ e)

ended_finds : (l : Language) (w : Raw) (fs : List Frame) (p : Production) (vs : List Raw) (ss : List Symbol) → Awaits l w p vs ss fs [] → ended fs p vs ss ≡ Some w
ended_finds l w [] p vs ss a = let c = closed a in let e = c.0 in rw e (ap Some (over_same c.1))
ended_finds l w (doing q us rs ∷ fs) p vs ss a = let c = closed a in let e = c.0 in rw e (ended_finds l w fs q (us ++ build p vs ∷ []) rs (fed c.1))

ended_found : (l : Language) (w : Raw) (fs : List Frame) (p : Production) (vs : List Raw) (ss : List Symbol) → ended fs p vs ss ≡ Some w → Awaits l w p vs ss fs []
ended_found l w [] p vs ss e =
    let c = cond_gives (skips ss) (build p vs) w e in
    unclosed c.0 (subst (λ x. Feeds l w [] x []) (sym c.1) over)
ended_found l w (doing q us rs ∷ fs) p vs ss e =
    let c = cond_passes (skips ss) _ w e in
    unclosed c.0 (feed (ended_found l w fs q (us ++ build p vs ∷ []) rs c.1))

finds : (l : Language) (w : Raw) (fs : List Frame) → Rest l w fs [] → finish fs ≡ Some w
finds l w [] r = absurd r
finds l w (doing p vs ss ∷ fs) r = ended_finds l w fs p vs ss r

found : (l : Language) (w : Raw) (fs : List Frame) → finish fs ≡ Some w → Rest l w fs []
found l w [] e = absurd (none-some _ e)
found l w (doing p vs ss ∷ fs) e = ended_found l w fs p vs ss e

pub run_finds : (l : Language) (w : Raw) (ts : List Token) (fs : List Frame) → IsSound fs → Rest l w fs ts → run l ts fs ≡ Some w
run_finds l w [] fs sound r = finds l w fs r
run_finds l w (t ∷ ts) fs sound r = go (advance l t (second_of ts) fs) (steps l w t ts fs sound) (λ gs s q. run_finds l w ts gs s q)
  where
    go : (o : Option (List Frame)) → Steps l w t ts fs o → ((gs : List Frame) → IsSound gs → Rest l w gs ts → run l ts gs ≡ Some w) → option_and_then (run l ts) o ≡ Some w
    go None k rec = absurd (k r)
    go (Some gs) k rec = rec gs k.2 (k.0 r)

pub run_found : (l : Language) (w : Raw) (ts : List Token) (fs : List Frame) → IsSound fs → run l ts fs ≡ Some w → Rest l w fs ts
run_found l w [] fs sound e = found l w fs e
run_found l w (t ∷ ts) fs sound e = go (advance l t (second_of ts) fs) (steps l w t ts fs sound) e (λ gs s q. run_found l w ts gs s q)
  where
    go : (o : Option (List Frame)) → Steps l w t ts fs o → option_and_then (run l ts) o ≡ Some w → ((gs : List Frame) → IsSound gs → run l ts gs ≡ Some w → Rest l w gs ts) → Rest l w fs (t ∷ ts)
    go None k d rec = absurd (none-some _ d)
    go (Some gs) k d rec = k.1 (rec gs k.2 d)

speaks_top : (l : Language) → speaks l whole_expr ≡ true
speaks_top xpath = refl
speaks_top xquery = refl

speaks_type : (l : Language) → speaks l whole_sequence_type ≡ true
speaks_type xpath = refl
speaks_type xquery = refl

only_top : (p : Production) → head p ≡ whole → p ≡ whole_expr
only_top whole_expr e = refl
only_top _ e = cc

only_type : (p : Production) → head p ≡ whole_type → p ≡ whole_sequence_type
only_type whole_sequence_type e = refl
only_type _ e = cc

over_end : {l : Language} {w v : Raw} {ts : List Token} → Feeds l w [] v ts → (v ≡ w) × (ts ≡ [])
over_end over = (refl, refl)

-- a production that is the only one of its nonterminal
record IsOnly (l : Language) (p : Production) : Type 0 where
  spoken : speaks l p ≡ true
  only : (q : Production) → head q ≡ head p → q ≡ p
  sound : IsSound (start p)

began : {l : Language} {ts : List Token} {w : Raw} (p : Production) → IsOnly l p → Rest l w (start p) ts → Derives l (head p) ts w []
began {l = l} {ts = ts} {w = w} p o a =
    let e = over_end a.after in
    let d : Derives l (head p) ts (build p a.values) a.mid = by p o.spoken refl a.first in
    rw (e.0, e.1) at d

begin : {l : Language} {ts : List Token} {w : Raw} (p : Production) → IsOnly l p → Derives l (head p) ts w [] → Rest l w (start p) ts
begin {l = l} p o (by q s e x) = go q x (o.only q e)
  where
    go : {ts : List Token} {vs : List Raw} (q : Production) → Seq l (body q) ts vs [] → q ≡ p → Rest l (build q vs) (start p) ts
    go {ts = ts} {vs = vs} q x same =
        let y : Seq l (body p) ts vs [] = rw same at x in
        rw same (record { values = vs; mid = []; first = y; after = over })

derives_runs : {l : Language} {ts : List Token} {w : Raw} (p : Production) → IsOnly l p → Derives l (head p) ts w [] → run l ts (start p) ≡ Some w
derives_runs {l = l} {ts = ts} {w = w} p o s = run_finds l w ts (start p) o.sound (begin p o s)

runs_derives : {l : Language} {ts : List Token} {w : Raw} (p : Production) → IsOnly l p → run l ts (start p) ≡ Some w → Derives l (head p) ts w []
runs_derives {l = l} {ts = ts} {w = w} p o e = began p o (run_found l w ts (start p) o.sound e)

top_only : (l : Language) → IsOnly l whole_expr
top_only l = record { spoken = speaks_top l; only = only_top; sound = (refl, tt) }

type_only : (l : Language) → IsOnly l whole_sequence_type
type_only l = record { spoken = speaks_type l; only = only_type; sound = (refl, tt) }

pub spells_runs : {l : Language} {ts : List Token} {w : Raw} → Spells l ts w → read_whole l ts ≡ Some w
spells_runs {l = l} s = derives_runs whole_expr (top_only l) s

pub runs_spells : {l : Language} {ts : List Token} {w : Raw} → read_whole l ts ≡ Some w → Spells l ts w
runs_spells {l = l} e = runs_derives whole_expr (top_only l) e

pub spells_type_runs : {l : Language} {ts : List Token} {w : Raw} → SpellsType l ts w → read_type l ts ≡ Some w
spells_type_runs {l = l} s = derives_runs whole_sequence_type (type_only l) s

pub runs_spells_type : {l : Language} {ts : List Token} {w : Raw} → read_type l ts ≡ Some w → SpellsType l ts w
runs_spells_type {l = l} e = runs_derives whole_sequence_type (type_only l) e

pub spells_one : {l : Language} {ts : List Token} {v w : Raw} → Spells l ts v → Spells l ts w → v ≡ w
spells_one a b = same_Some _ _ (sym (spells_runs a) ∙ spells_runs b)

pub spells_one_type : {l : Language} {ts : List Token} {v w : Raw} → SpellsType l ts v → SpellsType l ts w → v ≡ w
spells_one_type a b = same_Some _ _ (sym (spells_type_runs a) ∙ spells_type_runs b)

pub refused : {l : Language} {ts : List Token} → read_whole l ts ≡ None → (v : Raw) → Spells l ts v → ⊥
refused e v s = none-some v (sym e ∙ spells_runs s)

pub refused_type : {l : Language} {ts : List Token} → read_type l ts ≡ None → (v : Raw) → SpellsType l ts v → ⊥
refused_type e v s = none-some v (sym e ∙ spells_type_runs s)
