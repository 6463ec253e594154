-- Outcomes that are the same as results, and what follows them.
use Rattle.std.proofs.Common.{◌≡◌, ℕ, List, [], ◌∷◌, ◌++◌, map, refl, sym, ap, subst, ◌∙◌, append_assoc}
use Rattle.std.proofs.lemmas.List.{append-nil, map-append}
use Rattle.std.specs.Prelude.{Result, Ok, Err}
use Rattle.xt_names.specs.declared.codes.Code.{Code}
use Rattle.xdm_items.specs.declared.items.Item.{Item}
use Rattle.xdm_items.specs.FunctionArguments.Arguments.{and_then as result_then}
use Rattle.expr_meaning.specs.Outcomes.Outcome.{Outcome, Ends, Fails, Deep, and_then, for_each, step_outcome, Every}
use Rattle.transform_meaning.specs.Keys.{each_value}
use Rattle.key_functions.specs.Keys.{IsFailure, SameAs, SameOutcome}
use Rattle.key_functions.proofs.Found.{then_then, then_as_well}
use Rattle.key_functions.proofs.Walk.{gathered}

pub failed_then : {A B : Type 0} (o : Outcome A) (g : A → ℕ → Outcome B) → IsFailure o →
    IsFailure (and_then o g)
failed_then (Ends v k) g h = absurd h
failed_then (Fails code) g h = tt
failed_then Deep g h = absurd h

pub same_then : {A B : Type 0} (r : Result A Code) (f : A → Result B Code) (o : Outcome A)
    (g : A → ℕ → Outcome B) (k : ℕ) → SameAs r o k → ((v : A) → SameAs (f v) (g v k) k) →
    SameAs (result_then r f) (and_then o g) k
same_then (Ok v) f o g k h i = subst (λ p. SameAs (f v) (and_then p g) k) (sym h) (i v)
same_then (Err code) f o g k h i = failed_then o g h

-- one after another
pub each_same : {A B : Type 0} (P : A → Type 0) (r : A → Result (List B) Code)
    (f : A → ℕ → Outcome (List B)) → ((x : A) → P x → (k : ℕ) → SameAs (r x) (f x k) k) →
    (xs : List A) → Every P xs → (k : ℕ) → SameAs (each_value r xs) (for_each f xs k) k
each_same P r f h [] all k = refl
each_same P r f h (x ∷ xs) all k =
    same_then (r x) (λ ys. result_then (each_value r xs) (λ zs. Ok (ys ++ zs))) (f x k)
    (λ ys j. and_then (for_each f xs j) (λ zs i. Ends (ys ++ zs) i)) k (h x all.0 k) (λ ys.
    same_then (each_value r xs) (λ zs. Ok (ys ++ zs)) (for_each f xs k)
    (λ zs i. Ends (ys ++ zs) i) k (each_same P r f h xs all.1 k) (λ zs. refl))

pub each_mapped : {A B C : Type 0} (f : A → Result (List B) Code) (m : B → C) (xs : List A) →
    result_then (each_value f xs) (λ ys. Ok (map m ys))
    ≡ each_value (λ x. result_then (f x) (λ ys. Ok (map m ys))) xs
each_mapped f m [] = refl
each_mapped {B} {C} f m (x ∷ xs) = by (f x) (each_mapped f m xs)
  where
    rest : Result (List C) Code
    rest = each_value (λ y. result_then (f y) (λ ys. Ok (map m ys))) xs

    by : (r : Result (List B) Code) → result_then (each_value f xs) (λ ys. Ok (map m ys)) ≡ rest →
        result_then (result_then r (λ ys. result_then (each_value f xs) (λ zs. Ok (ys ++ zs))))
        (λ ys. Ok (map m ys))
        ≡ result_then (result_then r (λ ys. Ok (map m ys)))
        (λ ys. result_then rest (λ zs. Ok (ys ++ zs)))
    by (Ok ys) e =
        then_then (each_value f xs) (λ zs. ys ++ zs) (map m)
        ∙ then_as_well (each_value f xs) _ _ (λ zs. map-append m ys zs)
        ∙ sym (then_then (each_value f xs) (map m) (λ zs. map m ys ++ zs))
        ∙ ap (λ r. result_then r (λ zs. Ok (map m ys ++ zs))) e
    by (Err code) e = refl

module _ {A B : Type 0} (r : A → Result (List B) Code) where
  each_append : (xs ys : List A) → each_value r (xs ++ ys)
      ≡ result_then (each_value r xs) (λ us. result_then (each_value r ys) (λ vs. Ok (us ++ vs)))
  each_append [] ys = by (each_value r ys)
    where
      by : (q : Result (List B) Code) → q ≡ result_then q (λ vs. Ok vs)
      by (Ok vs) = refl
      by (Err code) = refl
  each_append (x ∷ xs) ys = by (r x) (each_append xs ys)
    where
      after : (us : List B) (p q : Result (List B) Code) →
          result_then (result_then p (λ vs. result_then q (λ ws. Ok (vs ++ ws))))
          (λ zs. Ok (us ++ zs))
          ≡ result_then (result_then p (λ vs. Ok (us ++ vs)))
          (λ vs. result_then q (λ ws. Ok (vs ++ ws)))
      after us (Ok vs) (Ok ws) = ap Ok (sym (append_assoc us vs ws))
      after us (Ok vs) (Err code) = refl
      after us (Err code) q = refl

      by : (p : Result (List B) Code) → each_value r (xs ++ ys)
          ≡ result_then (each_value r xs) (λ us. result_then (each_value r ys) (λ vs. Ok (us ++ vs))) →
          result_then p (λ us. result_then (each_value r (xs ++ ys)) (λ zs. Ok (us ++ zs)))
          ≡ result_then (result_then p (λ us. result_then (each_value r xs) (λ vs. Ok (us ++ vs))))
          (λ us. result_then (each_value r ys) (λ vs. Ok (us ++ vs)))
      by (Ok us) e =
          ap (λ q. result_then q (λ zs. Ok (us ++ zs))) e
          ∙ after us (each_value r xs) (each_value r ys)
      by (Err code) e = refl

  pub each_gathered : {C : Type 0} (g : C → List A) (xs : List C) →
      each_value (λ x. each_value r (g x)) xs ≡ each_value r (gathered g xs)
  each_gathered g [] = refl
  each_gathered g (x ∷ xs) =
      ap (λ q. result_then (each_value r (g x)) (λ us. result_then q (λ vs. Ok (us ++ vs))))
      (each_gathered g xs)
      ∙ sym (each_append (g x) (gathered g xs))

pub same_step_outcome : (r : Result (List Item) Code) (o : Outcome (List Item)) (k : ℕ) →
    SameAs r o k → SameOutcome (step_outcome r k) o
same_step_outcome (Ok xs) o k h = h
same_step_outcome (Err code) o k h = h

-- a list of one, and a path from one
pub alone_is : {A : Type 0} (o : Outcome (List A)) →
    and_then o (λ xs j. and_then (Ends [] j) (λ ys i. Ends (xs ++ ys) i)) ≡ o
alone_is (Ends xs k) = ap (λ ys. Ends ys k) (append-nil xs)
alone_is (Fails code) = refl
alone_is Deep = refl
