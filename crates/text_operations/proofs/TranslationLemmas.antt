-- Partners and replaced characters, one character at a time.
use Rattle.std.proofs.Common.{◌≡◌, ℕ, ◌+◌, ◌<◌, length, take, get_or, List, [], ◌∷◌, ◌++◌, true, false, cond, Option, Some, None, Result, Ok, Err, IfOk, nat_eq, slice_get, is_some, inl, inr, refl, sym, ap, ◌∙◌, arith, append_assoc, append-nil, suc}
use Rattle.std.proofs.lemmas.Bool.{cases_Bool, ne_eqb, eq-eqb}
use Rattle.std.proofs.lemmas.Bool.Decides.{eqb_tells}
use Rattle.std.proofs.lemmas.List.{take_more, length-take-le}
use Rattle.std.specs.Option.{option_or}
use Rattle.text_operations.specs.Translations.{first_of, others_of, partner, replaced, translated}

pub partner-nil : (to : List ℕ) (q : ℕ) → partner [] to q ≡ None
unfolding partner
partner-nil to q = refl

first_at : (to : List ℕ) → first_of to ≡ slice_get to 0
first_at [] = refl
first_at (c ∷ cs) = refl

get_others : (to : List ℕ) (n : ℕ) → slice_get (others_of to) n ≡ slice_get to (suc n)
get_others [] n = refl
get_others (c ∷ cs) n = refl

-- one more character with the partner at its place
pub partner-push : (from to : List ℕ) (c q : ℕ)
    → partner (from ++ c ∷ []) to q ≡ option_or (partner from to q) (cond (nat_eq q c) (Some (slice_get to (length from))) None)
unfolding partner
partner-push [] to c q = ap (λ (x : Option ℕ). cond (nat_eq q c) (Some x) None) (first_at to)
partner-push (f ∷ from) to c q =
    elim (cases_Bool (nat_eq q f)) [
      | inl stands ↦ rw stands refl
      | inr lacks ↦ rw lacks (partner-push from (others_of to) c q ∙ ap (λ (x : Option ℕ). option_or (partner from (others_of to) q) (cond (nat_eq q c) (Some x) None)) (get_others to (length from)))
    ]

pub translated-nil : (from to : List ℕ) → [] ≡ translated from to []
unfolding translated
translated-nil from to = refl

pub translated-push : (from to cs : List ℕ) (c : ℕ) → translated from to (cs ++ c ∷ []) ≡ translated from to cs ++ replaced (partner from to c) c
unfolding translated
translated-push from to [] c = append-nil (replaced (partner from to c) c)
translated-push from to (x ∷ cs) c =
    ap (λ (l : List ℕ). replaced (partner from to x) x ++ l) (translated-push from to cs c)
    ∙ sym (append_assoc (replaced (partner from to x) x) (translated from to cs) (replaced (partner from to c) c))

-- one more place of the map
pub partner_more : (from to : List ℕ) (i q d : ℕ) → i < length from
    → partner (take (i + 1) from) to q ≡ option_or (partner (take i from) to q) (cond (nat_eq q (get_or from i d)) (Some (slice_get to i)) None)
partner_more from to i q d h =
    let len : length (take i from) ≡ i = length-take-le i from (omega arith) in
    ap (λ (l : List ℕ). partner l to q) (take_more from i d h) ∙ partner-push (take i from) to (get_or from i d) q
    ∙ ap (λ (n : ℕ). option_or (partner (take i from) to q) (cond (nat_eq q (get_or from i d)) (Some (slice_get to n)) None)) len

no_other : (p : Option (Option ℕ)) → option_or p None ≡ p
no_other None = refl
no_other (Some x) = refl

of_none : (p : Option (Option ℕ)) (x : Option ℕ) → is_some p ≡ false → option_or p (Some x) ≡ Some x
of_none None x h = refl
of_none (Some y) x h = cc

of_some : (p o : Option (Option ℕ)) → is_some p ≡ true → option_or p o ≡ p
of_some None o h = cc
of_some (Some y) o h = refl

-- a character that was not in the table is put there
pub partner_put : (old new p : Option (Option ℕ)) (at : Option (Option ℕ)) (k q : ℕ) (v : Option ℕ) → (k ≡ q → at ≡ old)
    → new ≡ cond (nat_eq k q) (Some v) old → old ≡ p → is_some at ≡ false → new ≡ option_or p (cond (nat_eq q k) (Some v) None)
partner_put old new p at k q v same e f h =
    elim (eqb_tells k q) [
      | inl x ↦
          let back : nat_eq q k ≡ true = eq-eqb q k (sym x.1) in
          let empty : is_some p ≡ false = ap is_some (sym f) ∙ ap is_some (sym (same x.1)) ∙ h in
          e ∙ rw x.0 (sym (rw back (of_none p v empty)))
      | inr x ↦
          let back : nat_eq q k ≡ false = ne_eqb q k (λ z. x.1 (sym z)) in
          e ∙ rw x.0 (f ∙ sym (rw back (no_other p)))
    ]

-- a character that was in the table stays as it was
pub partner_kept : (old new p : Option (Option ℕ)) (at : Option (Option ℕ)) (k q : ℕ) (v : Option ℕ) → (k ≡ q → at ≡ old)
    → new ≡ old → old ≡ p → is_some at ≡ true → new ≡ option_or p (cond (nat_eq q k) (Some v) None)
partner_kept old new p at k q v same e f h =
    elim (eqb_tells k q) [
      | inl x ↦
          let full : is_some p ≡ true = ap is_some (sym f) ∙ ap is_some (sym (same x.1)) ∙ h in
          e ∙ f ∙ sym (of_some p (cond (nat_eq q k) (Some v) None) full)
      | inr x ↦
          let back : nat_eq q k ≡ false = ne_eqb q k (λ z. x.1 (sym z)) in
          e ∙ f ∙ sym (rw back (no_other p))
    ]

-- one more character is replaced
pub translated_turn : (from to fs ts cs made new : List ℕ) (c : ℕ) (found : Option (Option ℕ)) → made ≡ translated from to cs → fs ≡ from → ts ≡ to
    → found ≡ partner fs ts c → new ≡ made ++ replaced found c → new ≡ translated from to (cs ++ c ∷ [])
translated_turn from to fs ts cs made new c found e f g h n =
    let is : found ≡ partner from to c = h ∙ ap (λ (l : List ℕ). partner l ts c) f ∙ ap (λ (l : List ℕ). partner from l c) g in
    n ∙ ap (λ (l : List ℕ). l ++ replaced found c) e ∙ ap (λ (x : Option (Option ℕ)). translated from to cs ++ replaced x c) is ∙ sym (translated-push from to cs c)

pub translated_done : {E : Type 0} (r : Result (List ℕ) E) (from to text yielded made : List ℕ) → made ≡ translated from to yielded → yielded ≡ text
    → IfOk r (λ t. t ≡ made) → IfOk r (λ t. t ≡ translated from to text)
translated_done (Ok t) from to text yielded made e f h = h ∙ e ∙ ap (translated from to) f
translated_done (Err x) from to text yielded made e f h = tt

pub partner_step : (from to : List ℕ) (i q k : ℕ) → i < length from → k ≡ get_or from i k
    → option_or (partner (take i from) to q) (cond (nat_eq q k) (Some (slice_get to i)) None) ≡ partner (take (i + 1) from) to q
partner_step from to i q k h e =
    ap (λ (x : ℕ). option_or (partner (take i from) to q) (cond (nat_eq q x) (Some (slice_get to i)) None)) e ∙ sym (partner_more from to i q k h)
