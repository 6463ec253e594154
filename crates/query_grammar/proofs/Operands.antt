-- Where an operand may come next in a query.
use Rattle.std.proofs.Common.{◌≡◌, ℕ, Bool, true, false, cond, codes, List, ◌∷◌, refl, sym}
use Rattle.std.proofs.Common.{◌∙◌, ap, subst, Option, Some, None, is_some}
use Rattle.std.proofs.Common.{option_and_then}
use Rattle.std.specs.Str.{bytes_eq}
use Rattle.expr_keys.specs.declared.keys.Key.TheVariants as key
use Rattle.expr_keys.specs.declared.tokens.Token.{Token}
use Rattle.expr_keys.specs.declared.tokens.Token.TheVariants as token
use Rattle.expr_terms.specs.declared.choices.Second.{Second}
use Rattle.expr_terms.specs.declared.choices.Second.TheVariants as second
use Rattle.expr_keys.specs.declared.productions.Language.TheVariants.{Xquery as xquery}
use Rattle.expr_keys.specs.declared.productions.Production.TheVariants.{WholeExpr as whole_expr}
use Rattle.expr_keys.specs.Tokens.{fits_key}
use Rattle.expr_terms.specs.Choices.{second_of}
use Rattle.expr_grammar.specs.Machine.{Frame, advance, start, deep}
use Rattle.query_grammar.specs.QueryPlaces.Places.{wants_operand, is_lone_slash}
use Rattle.query_grammar.proofs.QueryPlaces.Operands.{taken}
use Rattle.query_grammar.proofs.QueryPlaces.Apart.{uncompared_where, alone_behind}
use Rattle.query_grammar.specs.declared.declared.Opening.{Opening}
use Rattle.query_grammar.specs.declared.declared.Typed.{Typed}
use Rattle.query_grammar.specs.declared.declared.Declared.{Declared}
use Rattle.query_grammar.specs.declared.declared.Signature.{Signature}
use Rattle.query_grammar.specs.Words.{opening_of, may_open}
use Rattle.query_grammar.specs.Machine as machine
use Rattle.query_grammar.specs.Machine.{Mode, Turn, step, to_mode, to_end, held_step, head_step}
use Rattle.query_grammar.specs.Machine.{inner_step, wants, is_lone, Leads, began, onward}
use Rattle.query_grammar.specs.Machine.{ended_by}
use Rattle.query_grammar.specs.Machine.{to_value, to_inner, to_closed, whole_of, value_start}
use Rattle.query_grammar.specs.Machine.{inner_start, function_of, is_head}
use Rattle.query_grammar.proofs.Residue.{Ready, ready_on, ready_top, Valid}
use Rattle.query_grammar.proofs.Steps.{Steps, steps}
use Rattle.xt_names.proofs.BoolLemmas.{never}

-- what is led to is valid
valid_onto : (m n : Mode) (t : Token) (ts : List Token) (u : Turn) → u ≡ machine.onto n
    → Steps m t ts u → Valid n ts
valid_onto m n t ts machine.refused e s = absurd cc
valid_onto m n t ts (machine.ends d) e s = absurd cc
valid_onto m n t ts (machine.onto x) e s = subst (λ y. Valid y ts) (same e) s.2
  where
    same : {x y : Mode} → machine.onto x ≡ machine.onto y → x ≡ y
    same e = cc

pub valid : {m : Mode} {ts : List Token} → Leads m ts → Valid m ts
valid (began ts) = tt
valid (onward {m = m} {n = n} {t = t} {ts = ts} l e) =
    valid_onto m n t ts (step m t (second_of ts)) e (steps m t ts (valid l))
valid (ended_by l e) = tt

nothing_led : (o : Option (List Frame)) → is_some o ≡ false → o ≡ None
nothing_led None e = refl
nothing_led (Some fs) e = never (sym e)

no_outer : (p n : List ℕ) (s : Second) (fs : List Frame) → wants_operand fs ≡ false
    → advance xquery (token.StartTagOpen p n) s fs ≡ None
no_outer p n s fs e = nothing_led _ (taken p n s fs ∙ e)

-- a word is a value, and no operand comes after it
word_stops : (n p m : List ℕ) (s : Second)
    → option_and_then (advance xquery (token.StartTagOpen p m) s)
    (advance xquery (token.Name n) second.Alone (start whole_expr)) ≡ None
unfolding deep
word_stops n p m s = refl

held_none : (a b : Bool) (n p m : List ℕ) (s : Second)
    → held_step (token.Name n) second.Alone (token.StartTagOpen p m) s (cond a None (cond b None None))
    ≡ machine.refused
held_none true b n p m s = ap (to_mode machine.body) (word_stops n p m s)
held_none false true n p m s = ap (to_mode machine.body) (word_stops n p m s)
held_none false false n p m s = ap (to_mode machine.body) (word_stops n p m s)

held_outer : (a : Token) (r : Second) (p m : List ℕ) (s : Second) → r ≡ second.Alone
    → may_open a ≡ true
    → held_step a r (token.StartTagOpen p m) s (opening_of a (token.StartTagOpen p m)) ≡ machine.refused
held_outer (token.Name n) r p m s e f =
    ap (λ x. held_step (token.Name n) x (token.StartTagOpen p m) s
    (opening_of (token.Name n) (token.StartTagOpen p m))) e
    ∙ held_none (bytes_eq n (codes "declare")) (bytes_eq n (codes "xquery")) n p m s
held_outer _ r p m s e f = never f

outer_at : (m : Mode) (p n : List ℕ) (ts : List Token) → Valid m (token.StartTagOpen p n ∷ ts)
    → wants m ≡ false → step m (token.StartTagOpen p n) (second_of ts) ≡ machine.refused
outer_at machine.front p n ts v w = never (sym w)
outer_at (machine.held a r) p n ts v w = held_outer a r p n (second_of ts) v.0 v.1
outer_at (machine.head o us) p n ts v w = refl
outer_at (machine.body fs) p n ts v w = ap (to_mode machine.body)
    (no_outer p n (second_of ts) fs w)
outer_at (machine.value x fs) p n ts v w =
    ap (to_mode (machine.value x)) (no_outer p n (second_of ts) fs w)
outer_at (machine.inner q fs) p n ts v w =
    ap (inner_step q fs (token.StartTagOpen p n)) (no_outer p n (second_of ts) fs w)
outer_at (machine.closed d) p n ts v w = refl

no_less : (s : Second) (fs : List Frame) → Ready fs → wants_operand fs ≡ true
    → is_lone_slash fs ≡ false → advance xquery (token.Key key.Less) s fs ≡ None
no_less s fs r w a = uncompared_where s fs r.is_start r.reached w a

less_at : (m : Mode) (ts : List Token) → Valid m (token.Key key.Less ∷ ts) → wants m ≡ true
    → is_lone m ≡ false → step m (token.Key key.Less) (second_of ts) ≡ machine.refused
less_at machine.front ts v w a =
    ap (to_mode machine.body) (no_less (second_of ts) (start whole_expr) ready_top refl refl)
less_at (machine.held b r) ts v w a = never w
less_at (machine.head o us) ts v w a = never w
less_at (machine.body fs) ts v w a = ap (to_mode machine.body) (no_less (second_of ts) fs v w a)
less_at (machine.value x fs) ts v w a =
    ap (to_mode (machine.value x)) (no_less (second_of ts) fs v w a)
less_at (machine.inner q fs) ts v w a =
    ap (inner_step q fs (token.Key key.Less)) (no_less (second_of ts) fs v w a)
less_at (machine.closed d) ts v w a = never w

-- only `/` leads to where it may stand alone
abbrev Slashed : Token → Turn → Type 0
Slashed t machine.refused = Unit {0}
Slashed t (machine.ends d) = Unit {0}
Slashed t (machine.onto n) = is_lone n ≡ true → t ≡ token.Key key.Slash

frames_lone : (m : List Frame → Mode) → ((fs : List Frame) → is_lone (m fs) ≡ is_lone_slash fs)
    → (t : Token) (ts : List Token) (fs : List Frame) (o : Option (List Frame)) → Ready fs
    → advance xquery t (second_of ts) fs ≡ o → Slashed t (to_mode m o)
frames_lone m h t ts fs None r e = tt
frames_lone m h t ts fs (Some gs) r e =
    λ a. alone_behind t ts fs gs r.is_start r.reached e (sym (h gs) ∙ a)

cond_slashed : (b : Bool) (t : Token) (u w : Turn) → Slashed t u → Slashed t w
    → Slashed t (cond b u w)
cond_slashed true t u w x y = x
cond_slashed false t u w x y = y

end_slashed : (t : Token) (o : Option Declared) → Slashed t (to_end o)
end_slashed t None = tt
end_slashed t (Some d) = tt

value_slashed : (t : Token) (o : Option Typed) → Slashed t (to_value o)
value_slashed t None = tt
value_slashed t (Some n) = λ a. never a

inner_slashed : (t : Token) (o : Option Signature) → Slashed t (to_inner o)
inner_slashed t None = tt
inner_slashed t (Some q) = λ a. never a

closed_slashed : (t : Token) (o : Option Declared) → Slashed t (to_closed o)
closed_slashed t None = tt
closed_slashed t (Some d) = λ a. never a

held_slashed : (a t : Token) (ts : List Token) (r : Second) (x : Option Opening)
    (o : Option (List Frame)) → r ≡ second_of (t ∷ ts) → advance xquery a r (start whole_expr) ≡ o
    → Slashed t (held_step a r t (second_of ts) x)
held_slashed a t ts r (Some z) o e f = λ b. never b
held_slashed a t ts r None None e f =
    subst (λ z. Slashed t (to_mode machine.body (option_and_then
    (advance xquery t (second_of ts)) z)))
    (sym f) tt
held_slashed a t ts r None (Some fs) e f =
    let g = ap (λ z. advance xquery a z (start whole_expr)) (sym e) ∙ f in
    subst (λ z. Slashed t (to_mode machine.body (option_and_then
    (advance xquery t (second_of ts)) z)))
    (sym f)
    (frames_lone machine.body (λ gs. refl) t ts fs (advance xquery t (second_of ts) fs)
    (ready_on a (t ∷ ts) ready_top g) refl)

inner_by : (q : Signature) (fs : List Frame) (t : Token) (ts : List Token)
    (o : Option (List Frame)) → Ready fs → advance xquery t (second_of ts) fs ≡ o
    → Slashed t (inner_step q fs t o)
inner_by q fs t ts None r e =
    cond_slashed (fits_key key.CloseBrace t) t _ machine.refused (closed_slashed t _) tt
inner_by q fs t ts (Some gs) r e =
    λ a. alone_behind t ts fs gs r.is_start r.reached e a

slashed : (m : Mode) (t : Token) (ts : List Token) → Valid m (t ∷ ts)
    → Slashed t (step m t (second_of ts))
slashed machine.front t ts v =
    cond_slashed (may_open t) t _ _ (λ a. never a)
    (frames_lone machine.body (λ gs. refl) t ts (start whole_expr) _ ready_top refl)
slashed (machine.held a r) t ts v = held_slashed a t ts r (opening_of a t) _ v.0 refl
slashed (machine.head o us) t ts v =
    cond_slashed (is_head t) t _ _ (λ a. never a)
    (cond_slashed (fits_key key.Semicolon t) t _ _ (end_slashed t (whole_of o us))
    (cond_slashed (fits_key key.Assign t) t _ _ (value_slashed t (value_start o us))
    (cond_slashed (fits_key key.OpenBrace t) t _ machine.refused
    (inner_slashed t (inner_start o us)) tt)))
slashed (machine.body fs) t ts v = frames_lone machine.body (λ gs. refl) t ts fs _ v refl
slashed (machine.value n fs) t ts v =
    cond_slashed (fits_key key.Semicolon t) t _ _ (end_slashed t _)
    (frames_lone (machine.value n) (λ gs. refl) t ts fs _ v refl)
slashed (machine.inner q fs) t ts v = inner_by q fs t ts _ v refl
slashed (machine.closed d) t ts v = cond_slashed
    (fits_key key.Semicolon t) t _ machine.refused tt tt

slash_of : (t : Token) (n : Mode) (u : Turn) → u ≡ machine.onto n → Slashed t u
    → is_lone n ≡ true → t ≡ token.Key key.Slash
slash_of t n machine.refused e s a = absurd cc
slash_of t n (machine.ends d) e s a = absurd cc
slash_of t n (machine.onto x) e s a = s (ap is_lone (same e) ∙ a)
  where
    same : {x y : Mode} → machine.onto x ≡ machine.onto y → x ≡ y
    same e = cc

pub outer_refused : (m : Mode) (p n : List ℕ) (ts : List Token) → Leads m (token.StartTagOpen p n ∷ ts)
    → wants m ≡ false → step m (token.StartTagOpen p n) (second_of ts) ≡ machine.refused
outer_refused m p n ts l w = outer_at m p n ts (valid l) w

pub less_refused : (m : Mode) (ts : List Token) → Leads m (token.Key key.Less ∷ ts)
    → wants m ≡ true → is_lone m ≡ false
    → step m (token.Key key.Less) (second_of ts) ≡ machine.refused
less_refused m ts l w a = less_at m ts (valid l) w a

pub slash_leads : (m n : Mode) (t : Token) (ts : List Token) → Leads m (t ∷ ts)
    → step m t (second_of ts) ≡ machine.onto n → is_lone n ≡ true → t ≡ token.Key key.Slash
slash_leads m n t ts l e a =
    slash_of t n (step m t (second_of ts)) e (slashed m t ts (valid l)) a
