-- The white space at the front of a text with one more character.
use Rattle.std.proofs.Common.{◌≡◌, ℕ, List, [], ◌∷◌, ◌++◌, Bool, true, false, not, ◌||◌, cond, refl, ap, sym, ◌∙◌, subst}
use Rattle.std.specs.Prelude.{Result, IfOk}
use Rattle.std.specs.declared.alloc.AllocError.{AllocError}
use Rattle.xt_names.specs.Marks.{is_white, begins_white}
use Rattle.node_builder.specs.Trees.{without_white, kept_char}

-- whether a character is kept
pub has_begun : List ℕ → Bool
has_begun [] = false
has_begun (c ∷ cs) = not (is_white c) || has_begun cs

pub has_begun-nil : has_begun [] ≡ false
unfolding has_begun
has_begun-nil = refl

pub has_begun-push : (xs : List ℕ) (c : ℕ) → has_begun (xs ++ c ∷ []) ≡ (has_begun xs || not (is_white c))
unfolding has_begun
has_begun-push [] c = or_none (not (is_white c)) where
  or_none : (p : Bool) → (p || false) ≡ p
  or_none true = refl
  or_none false = refl
has_begun-push (x ∷ xs) c = or_step (not (is_white x)) (has_begun xs) _ _ (has_begun-push xs c) where
  or_step : (p q r s : Bool) → s ≡ (q || r) → (p || s) ≡ ((p || q) || r)
  or_step true q r s e = refl
  or_step false q r s e = e

pub without_white-push : (xs : List ℕ) (c : ℕ) → without_white (xs ++ c ∷ []) ≡ without_white xs ++ kept_char (has_begun (xs ++ c ∷ [])) c
unfolding has_begun
without_white-push [] c = one (is_white c) where
  one : (w : Bool) → cond w [] (c ∷ []) ≡ kept_char (not w || false) c
  one true = refl
  one false = refl
without_white-push (x ∷ xs) c = more (is_white x) (without_white-push xs c) where
  more : (w : Bool) → without_white (xs ++ c ∷ []) ≡ without_white xs ++ kept_char (has_begun (xs ++ c ∷ [])) c
      → cond w (without_white (xs ++ c ∷ [])) (x ∷ (xs ++ c ∷ [])) ≡ cond w (without_white xs) (x ∷ xs) ++ kept_char (not w || has_begun (xs ++ c ∷ [])) c
  more true e = e
  more false e = refl

pub without_white-same : (xs : List ℕ) → begins_white xs ≡ false → xs ≡ without_white xs
unfolding begins_white
without_white-same [] e = refl
without_white-same (x ∷ xs) e = same (is_white x) e where
  same : (w : Bool) → w ≡ false → x ∷ xs ≡ cond w (without_white xs) (x ∷ xs)
  same true f = absurd cc
  same false f = refl

pub trim_same : (r : Result (List ℕ) AllocError) (s : List ℕ) → begins_white s ≡ false → IfOk r (λ t. t ≡ s) → IfOk r (λ t. t ≡ without_white s)
trim_same r s e h = subst (λ t. IfOk r (λ x. x ≡ t)) (without_white-same s e) h

-- one turn of the loop
pub trim_turn : (xs : List ℕ) (c : ℕ) (text old : List ℕ) (begun now : Bool) → begun ≡ has_begun xs → now ≡ (begun || not (is_white c)) → old ≡ without_white xs → text ≡ old ++ kept_char now c
    → text ≡ without_white (xs ++ c ∷ [])
trim_turn xs c text old begun now b n o e =
    let f : now ≡ has_begun (xs ++ c ∷ []) = n ∙ ap (λ p. p || not (is_white c)) b ∙ sym (has_begun-push xs c) in
    e ∙ ap (λ ys. ys ++ kept_char now c) o ∙ ap (λ k. without_white xs ++ kept_char k c) f ∙ sym (without_white-push xs c)

pub trim_done : (r : Result (List ℕ) AllocError) (s xs text : List ℕ) → text ≡ without_white xs → xs ≡ s → IfOk r (λ t. t ≡ text) → IfOk r (λ t. t ≡ without_white s)
trim_done r s xs text e f h = subst (λ t. IfOk r (λ x. x ≡ t)) (e ∙ ap without_white f) h
