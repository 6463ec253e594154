-- Slices of tokens.
use Rattle.std.proofs.Common.{◌≡◌, ◌<◌, ◌≤◌, ℕ, zero, suc, ◌+◌, ◌-◌, Bool, true, false, cond}
use Rattle.std.proofs.Common.{codes}
use Rattle.std.proofs.Common.{List, [], ◌∷◌, ◌++◌, length, take, drop, get_or, refl, sym, ◌∙◌, ap}
use Rattle.std.proofs.Common.{arith, add-one, append_assoc, Option, Some, None, option_map}
use Rattle.std.proofs.Common.{option_and_then}
use Rattle.expr_keys.specs.declared.keys.Key.TheVariants as key
use Rattle.expr_keys.specs.declared.tokens.Token.{Token}
use Rattle.expr_keys.specs.Tokens.{fits_key}
use Rattle.query_grammar.specs.declared.declared.Typed.{Typed}
use Rattle.query_grammar.specs.declared.declared.Declared.TheVariants as declared
use Rattle.query_grammar.specs.Words.{is_named}
use Rattle.query_grammar.specs.Machine.{params_in, typed_of, but_last, is_outside, outside_of}
use Rattle.xt_names.proofs.ListLemmas.{drop_at}

-- these parameters before others
abbrev pub with_all : List Typed → Option (List Typed) → Option (List Typed)
with_all ps None = None
with_all ps (Some qs) = Some (ps ++ qs)

-- the last token, and those before it
pub last_named : (ts : List Token) (x : Token) → 0 < length ts
    → is_outside ts ≡ is_named (codes "external") (get_or ts (length ts - 1) x)
last_named [] x h = absurd (omega arith)
last_named (t ∷ []) x h = refl
last_named (t ∷ u ∷ ts) x h =
    let i = last_named (u ∷ ts) x (omega arith) in
    let e : length (t ∷ u ∷ ts) - 1 ≡ suc (length (u ∷ ts) - 1) = omega arith in
    i ∙ ap (λ k. is_named (codes "external") (get_or (t ∷ u ∷ ts) k x)) (sym e)

front_is : (ts : List Token) → but_last ts ≡ take (length ts - 1) ts
front_is [] = refl
front_is (t ∷ []) = refl
front_is (t ∷ u ∷ ts) =
    let i = front_is (u ∷ ts) in
    let e : length (t ∷ u ∷ ts) - 1 ≡ suc (length (u ∷ ts) - 1) = omega arith in
    ap (λ z. t ∷ z) i ∙ ap (λ k. take k (t ∷ u ∷ ts)) (sym e)

pub outside_left : (ts : List Token) → is_outside ts ≡ false → None ≡ outside_of ts
outside_left ts e = rw e refl

pub outside_none : (ts : List Token) (o : Option Typed) → is_outside ts ≡ true
    → o ≡ typed_of (take (length ts - 1) ts) → o ≡ None → None ≡ outside_of ts
outside_none ts o e f g =
    let h : typed_of (but_last ts) ≡ None = ap typed_of (front_is ts) ∙ sym f ∙ g in
    rw (e, h) refl

pub outside_some : (ts : List Token) (o : Option Typed) (v : Typed) → is_outside ts ≡ true
    → o ≡ typed_of (take (length ts - 1) ts) → o ≡ Some v
    → Some (declared.Variable v None) ≡ outside_of ts
outside_some ts o v e f g =
    let h : typed_of (but_last ts) ≡ Some v = ap typed_of (front_is ts) ∙ sym f ∙ g in
    rw (e, h) refl

-- one token more
snoc : (us : List Token) (k : ℕ) (x : Token) → k < length us
    → take (suc k) us ≡ take k us ++ get_or us k x ∷ []
snoc [] k x h = absurd (omega arith)
snoc (u ∷ us) zero x h = refl
snoc (u ∷ us) (suc k) x h = ap (λ z. u ∷ z) (snoc us k x (omega arith))

get_drop : (ts : List Token) (from k : ℕ) (x : Token)
    → get_or (drop from ts) k x ≡ get_or ts (from + k) x
get_drop ts zero k x = let e : 0 + k ≡ k = omega arith in ap (λ z. get_or ts z x) (sym e)
get_drop [] (suc f) k x = refl
get_drop (t ∷ ts) (suc f) k x =
    let e : suc f + k ≡ suc (f + k) = omega arith in
    get_drop ts f k x ∙ ap (λ z. get_or (t ∷ ts) z x) (sym e)

drop_length : (ts : List Token) (from : ℕ) → from ≤ length ts
    → length (drop from ts) + from ≡ length ts
drop_length ts zero h = omega arith
drop_length [] (suc f) h = absurd (omega arith)
drop_length (t ∷ ts) (suc f) h = let e = drop_length ts f (omega arith) in omega arith

pub one_more : (ts : List Token) (from i : ℕ) (t : Token) → from ≤ i → i < length ts
    → t ≡ get_or ts i t
    → take (i + 1 - from) (drop from ts) ≡ take (i - from) (drop from ts) ++ t ∷ []
one_more ts from i t h k e =
    let a : i + 1 - from ≡ suc (i - from) = omega arith in
    let b : from + (i - from) ≡ i = omega arith in
    let c : i - from < length (drop from ts) = omega (arith, drop_length ts from (omega arith)) in
    ap (λ z. take z (drop from ts)) a ∙ (snoc (drop from ts) (i - from) t c
    ∙ ap (λ z. take (i - from) (drop from ts) ++ z ∷ [])
    (get_drop ts from (i - from) t ∙ (ap (λ z. get_or ts z t) b ∙ sym e)))

abbrev pub Filled : List Token → ℕ → ℕ → List Typed → Type 0
Filled ts from i ps = (from ≤ i)
    × (params_in [] ts ≡ with_all ps (params_in (take (i - from) (drop from ts)) (drop i ts)))

pub filled_on : (ts : List Token) (from i : ℕ) (ps : List Typed) (t : Token) → Filled ts from i ps
    → i < length ts → t ≡ get_or ts i t → fits_key key.Comma t ≡ false → Filled ts from (i + 1) ps
filled_on ts from i ps t f h e g =
    let a = one_more ts from i t f.0 h e in
    let b = drop_at ts i t h e in
    let c : params_in (take (i - from) (drop from ts)) (t ∷ drop (i + 1) ts)
    ≡ params_in (take (i - from) (drop from ts) ++ t ∷ []) (drop (i + 1) ts) = rw g refl in (
      omega (arith, f.0),
      f.1 ∙ ap (with_all ps)
          (ap (params_in (take (i - from) (drop from ts))) b
          ∙ (c ∙ ap (λ z. params_in z (drop (i + 1) ts)) (sym a))),
    )

with_next : (ps : List Typed) (p : Typed) (o : Option (List Typed))
    → with_all ps (option_map (λ qs. p ∷ qs) o) ≡ with_all (ps ++ p ∷ []) o
with_next ps p None = refl
with_next ps p (Some qs) = ap Some (sym (append_assoc ps (p ∷ []) qs))

pub filled_comma : (ts : List Token) (from i : ℕ) (ps : List Typed) (t : Token) (p : Typed)
    → Filled ts from i ps → i < length ts → t ≡ get_or ts i t → fits_key key.Comma t ≡ true
    → typed_of (take (i - from) (drop from ts)) ≡ Some p → Filled ts (i + 1) (i + 1)
    (ps ++ p ∷ [])
filled_comma ts from i ps t p f h e g j =
    let b = drop_at ts i t h e in
    let z : i + 1 - (i + 1) ≡ 0 = omega arith in
    let c : params_in (take (i - from) (drop from ts)) (t ∷ drop (i + 1) ts)
    ≡ option_map (λ qs. p ∷ qs) (params_in [] (drop (i + 1) ts)) = rw (g, j) refl in (
      omega arith,
      f.1 ∙ (ap (with_all ps) (ap (params_in (take (i - from) (drop from ts))) b ∙ c)
          ∙ (with_next ps p (params_in [] (drop (i + 1) ts))
          ∙ ap (λ k. with_all (ps ++ p ∷ []) (params_in (take k (drop (i + 1) ts))
          (drop (i + 1) ts)))
          (sym z))),
    )

pub ruleset lasts = (outside_left)

pub ruleset params = (filled_on)

pub ruleset insides = (add-one)

pub ruleset parts = (add-one)
