-- Outcomes that go on from one another.
use Rattle.std.proofs.Common.{◌≡◌, ℕ, ◌++◌, List, [], ◌∷◌, refl, sym, ap, append_assoc}
use Rattle.std.proofs.lemmas.List.{append-nil}
use Rattle.xt_names.specs.declared.codes.Code.{Code}
use Rattle.expr_meaning.specs.Outcomes.Outcome.{Outcome, Ends, Fails, Deep, and_then, for_each}
use Rattle.expr_meaning.specs.SortMeaning.Sorted.{ordered}
use Rattle.expr_meaning.proofs.SortMeaning.Sorting.{sorted_plain}

-- nothing follows
pub with_nothing : {A : Type 0} (o : Outcome (List A)) →
    and_then o (λ xs j. Ends (xs ++ []) j) ≡ o
with_nothing (Ends xs j) = ap (λ l. Ends l j) (append-nil xs)
with_nothing (Fails c) = refl
with_nothing Deep = refl

pub as_it_is : {A : Type 0} (o : Outcome A) → and_then o (λ v k. Ends v k) ≡ o
as_it_is (Ends v k) = refl
as_it_is (Fails c) = refl
as_it_is Deep = refl

at_end : {A : Type 0} (xs ys : List A) (o : Outcome (List A)) →
    and_then (and_then o (λ zs h. Ends (ys ++ zs) h)) (λ ws i. Ends (xs ++ ws) i)
    ≡ and_then o (λ zs i. Ends ((xs ++ ys) ++ zs) i)
at_end xs ys (Ends zs h) = ap (λ l. Ends l h) (sym (append_assoc xs ys zs))
at_end xs ys (Fails c) = refl
at_end xs ys Deep = refl

in_middle : {A : Type 0} (xs : List A) (o : Outcome (List A)) (r : ℕ → Outcome (List A)) →
    and_then (and_then o (λ ys i. and_then (r i) (λ zs h. Ends (ys ++ zs) h)))
    (λ ws i. Ends (xs ++ ws) i)
    ≡ and_then (and_then o (λ ys i. Ends (xs ++ ys) i))
    (λ ws j. and_then (r j) (λ zs i. Ends (ws ++ zs) i))
in_middle xs (Ends ys i) r = at_end xs ys (r i)
in_middle xs (Fails c) r = refl
in_middle xs Deep r = refl

-- three lists, one after another
pub three : {A : Type 0} (o : Outcome (List A)) (c r : ℕ → Outcome (List A)) →
    and_then o (λ xs j. and_then (and_then (c j) (λ ys i. and_then (r i) (λ zs h. Ends (ys ++ zs) h)))
    (λ ws i. Ends (xs ++ ws) i))
    ≡ and_then (and_then o (λ xs j. and_then (c j) (λ ys i. Ends (xs ++ ys) i)))
    (λ ws j. and_then (r j) (λ zs i. Ends (ws ++ zs) i))
three (Ends xs j) c r = in_middle xs (c j) r
three (Fails e) c r = refl
three Deep c r = refl

-- one value without keys, and none
pub one_ordered : {A : Type 0} (mixed : Code) (x : A) (k : ℕ) →
    ordered mixed [] (record { cells = []; value = x } ∷ []) k ≡ Ends (x ∷ []) k
one_ordered mixed x k = sorted_plain mixed (x ∷ []) k

pub none_ordered : {A : Type 0} (mixed : Code) (k : ℕ) → ordered {A = A} mixed [] [] k ≡ Ends [] k
none_ordered {A = A} mixed k = sorted_plain {A = A} mixed [] k

-- over one value
pub over_one : {A B : Type 0} (f : A → ℕ → Outcome (List B)) (x : A) (k : ℕ) →
    for_each f (x ∷ []) k ≡ f x k
over_one f x k = with_nothing (f x k)
