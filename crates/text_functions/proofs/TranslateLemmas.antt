-- A text that no character is replaced in.
use Rattle.std.proofs.Common.{◌≡◌, ℕ, List, [], ◌∷◌, true, Result, Ok, Err, IfOk, refl, sym, ap, ◌∙◌}
use Rattle.xt_names.specs.Allowed.{is_empty_text}
use Rattle.text_operations.specs.Translations.{translated, partner}

same : (to cs : List ℕ) → translated [] to cs ≡ cs
unfolding translated partner
same to [] = refl
same to (c ∷ cs) = ap (λ (l : List ℕ). c ∷ l) (same to cs)

nothing : (from : List ℕ) → is_empty_text from ≡ true → from ≡ []
unfolding is_empty_text
nothing [] h = refl
nothing (c ∷ cs) h = cc

-- without characters to replace the text stays
pub not_translated : {E : Type 0} (r : Result (List ℕ) E) (from to cs : List ℕ) → is_empty_text from ≡ true → IfOk r (λ t. t ≡ cs) → IfOk r (λ t. t ≡ translated from to cs)
not_translated (Ok t) from to cs h e = e ∙ sym (ap (λ (f : List ℕ). translated f to cs) (nothing from h) ∙ same to cs)
not_translated (Err x) from to cs h e = tt
