-- Items in their order, each with its place and their number: related where keys and bodies are.
use Rattle.std.proofs.Common.{◌≡◌, ◌^◌, ℕ, suc, List, [], ◌∷◌, length, refl, ◌∙◌}
use Rattle.std.proofs.lemmas.List.{length-map}
use Rattle.std.specs.Prelude.{Bool, true, false, Ok, Err, nat_lt, if◌then◌else◌}
use Rattle.xt_names.specs.declared.codes.Code.{Code}
use Rattle.xt_names.specs.declared.codes.Code.TheVariants.{Dynamic}
use Rattle.xt_names.specs.declared.codes.DynamicCode.TheVariants.{FOAR0002}
use Rattle.expr_meaning.specs.Outcomes.Outcome.{Outcome, Ends, Fails, Deep, and_then, step_outcome}
use Rattle.expr_meaning.specs.Outcomes.Outcome.{OnEnds, Every, Anything}
use Rattle.expr_meaning.specs.Outcomes.Follow.{Relation, IsCarrying, there, any_code}
use Rattle.expr_meaning.proofs.OutcomesLemmas.Relations.{there_carries, carried_same, nothing_known}
use Rattle.expr_meaning.proofs.OutcomesLemmas.Relations.{step_carried}
use Rattle.expr_meaning.specs.SortMeaning.Related.{ColumnsRelate}
use Rattle.expr_meaning.specs.SortMeaning.Sorted.{Column, Placed, places, placed, placed_from, values, sorted}
use Rattle.expr_meaning.proofs.SortMeaning.Carried.{sorted_carried}
use Rattle.expr_meaning.proofs.SortMeaning.Sorting.{sorted_long, placed_long}

-- a value with this property, in a list of so many
abbrev pub InListOf : {A : Type 0} → (A → Type 0) → ℕ → Placed A → Type 0
InListOf P n p = P p.value × (p.size ≡ n)

pub sized_from : {A : Type 0} (P : A → Type 0) (i m n : ℕ) → m ≡ n → (xs : List A) → Every P xs →
    Every (InListOf P n) (placed_from i m xs)
sized_from P i m n e [] h = tt
sized_from P i m n e (x ∷ xs) h = ((h.0, e), sized_from P (suc i) m n e xs h.1)

pub values_good : {A : Type 0} (P : A → Type 0) (n : ℕ) (fs : List (Placed A)) →
    Every (InListOf P n) fs → Every P (values fs)
values_good P n [] h = tt
values_good P n (f ∷ fs) h = (h.0.0, values_good P n fs h.1)

pub both_on : {A : Type 0} (P Q : A → Type 0) (o : Outcome A) → OnEnds P o → OnEnds Q o →
    OnEnds (λ v. P v × Q v) o
both_on P Q (Ends v k) h g = (h, g)
both_on P Q (Fails code) h g = tt
both_on P Q Deep h g = tt

-- what holds of values holds of them in their order
columns_alike : {A : Type 0} (P : A → Type 0) (cs : List (Column A)) → ColumnsRelate there P cs cs
columns_alike P [] = tt
columns_alike P (c ∷ cs) = (
  λ x k h. carried_same any_code (λ code. tt) _ Anything (c.key x k) (nothing_known (c.key x k)),
  refl,
  columns_alike P cs,
)

pub order_keeps : {A : Type 0} (P : A → Type 0) (m : Code) (cs : List (Column A)) (xs : List A) →
    Every P xs → (k : ℕ) → OnEnds (Every P) (sorted m cs xs k)
order_keeps P m cs xs h k =
    (sorted_carried any_code there there_carries P m m tt cs cs (columns_alike P cs) xs h k).1

-- the places of a list
pub few_places : {A : Type 0} (P : List (Placed A) → Type 0) (xs : List A) (k : ℕ) →
    (nat_lt (length xs) (2 ^ 63) ≡ true → P (placed xs)) → OnEnds P (step_outcome (places xs) k)
few_places P xs k h = by (nat_lt (length xs) (2 ^ 63)) refl
  where
    by : (b : Bool) → nat_lt (length xs) (2 ^ 63) ≡ b → OnEnds P (step_outcome
        (if b then Ok (placed xs) else Err (Dynamic FOAR0002)) k)
    by true e = h e
    by false e = tt

-- of a list in order: the same property, as many, and few
abbrev pub IsAsLong : {A B : Type 0} → List A → List B → Type 0
IsAsLong xs gs = (length gs ≡ length xs) × (nat_lt (length xs) (2 ^ 63) ≡ true)

abbrev pub IsOrderOf : {A : Type 0} → (A → Type 0) → List A → List (Placed A) → Type 0
IsOrderOf P xs gs = Every (InListOf P (length xs)) gs × IsAsLong xs gs

module _ (like : Code → Code → Type 0) (rel : Relation) (carries : IsCarrying like rel) where
  -- the same keys, the same order, and then what is related
  pub order_then : {A B : Type 0} (P : A → Type 0) (Q : B → Type 0) (m n : Code) → like m n →
      (cs ds : List (Column (Placed A))) (xs : List A) →
      ColumnsRelate rel (InListOf P (length xs)) cs ds → Every P xs →
      (f g : List (Placed A) → ℕ → Outcome B) →
      ((gs : List (Placed A)) (k : ℕ) → IsOrderOf P xs gs → rel B Q (f gs k) (g gs k)) → (k : ℕ) →
      rel B Q
      (and_then (step_outcome (places xs) k) (λ fs j. and_then (sorted m cs fs j) f))
      (and_then (step_outcome (places xs) k) (λ fs j. and_then (sorted n ds fs j) g))
  order_then {A = A} P Q m n l cs ds xs h good f g go k =
      carries.next _ _ (IsOrderOf P xs) Q (step_outcome (places xs) k) (step_outcome (places xs) k)
      _ _
      (step_carried like rel carries (IsOrderOf P xs) (places xs) k
      (few_places (IsOrderOf P xs) xs k
      (λ few. (sized_from P 1 (length xs) (length xs) refl xs good, (placed_long 1 (length xs) xs, few)))))
      (λ fs j is. carries.next _ _ (IsOrderOf P xs) Q (sorted m cs fs j) (sorted n ds fs j) f g
      (carries.also _ _ (IsOrderOf P xs) _ _
      (sorted_carried like rel carries (InListOf P (length xs)) m n l cs ds h fs is.0 j)
      (known fs j is)) (λ gs i r. go gs i r))
    where
      known : (fs : List (Placed A)) (j : ℕ) → IsOrderOf P xs fs →
          OnEnds (IsOrderOf P xs) (sorted m cs fs j)
      known fs j is =
          both_on (Every (InListOf P (length xs))) (IsAsLong xs) (sorted m cs fs j)
          (order_keeps (InListOf P (length xs)) m cs fs is.0 j)
          (as_long (sorted m cs fs j) (sorted_long m cs fs j) is)
        where
          as_long : (o : Outcome (List (Placed A))) → OnEnds (λ gs. length gs ≡ length fs) o →
              IsOrderOf P xs fs →
              OnEnds (IsAsLong xs) o
          as_long (Ends gs i) e is = (e ∙ is.1.0, is.1.1)
          as_long (Fails code) e is = tt
          as_long Deep e is = tt

  -- the values of a list in order, at their new places
  pub new_places : {A : Type 0} (P : A → Type 0) (xs : List A) (gs : List (Placed A)) →
      IsOrderOf P xs gs → Every (InListOf P (length xs)) (placed (values gs))
  new_places P xs gs is =
      sized_from P 1 (length (values gs)) (length xs) (length-map gs (λ f. f.value) ∙ is.1.0) (values gs)
      (values_good P (length xs) gs is.0)
