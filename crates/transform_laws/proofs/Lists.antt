-- Values that are related one by one, and what goes over them.
use Rattle.std.proofs.Common.{◌≡◌, ℕ, List, [], ◌∷◌, ◌++◌, map}
use Rattle.std.proofs.lemmas.Bool.{and_parts}
use Rattle.std.specs.Prelude.{Bool, true, false, filter, if◌then◌else◌, Option, Some, None}
use Rattle.std.specs.List.{list_all}
use Rattle.expr_meaning.specs.Outcomes.Outcome.{Outcome, Every, for_each}
use Rattle.expr_laws.specs.Carrier.{Carrier}

abbrev pub Pairs : {A B : Type 0} → (A → B → Type 0) → List A → List B → Type 0
Pairs R [] [] = Unit {0}
Pairs R [] (y ∷ ys) = ⊥
Pairs R (x ∷ xs) [] = ⊥
Pairs R (x ∷ xs) (y ∷ ys) = R x y × Pairs R xs ys

abbrev pub IfBoth : {A B : Type 0} → (A → B → Type 0) → Option A → Option B → Type 0
IfBoth R None None = Unit {0}
IfBoth R None (Some y) = ⊥
IfBoth R (Some x) None = ⊥
IfBoth R (Some x) (Some y) = R x y

-- what a value is made of on both sides, where something is asked of it under S
pub map_pairs : {X A : Type 0} (R : A → A → Type 0) (test : X → Bool) (S : Type 0) (f g : X → A) →
    ((x : X) → (S → test x ≡ true) → R (f x) (g x)) → (xs : List X) →
    (S → list_all test xs ≡ true) → Pairs R (map f xs) (map g xs)
map_pairs R test S f g h [] a = tt
map_pairs R test S f g h (x ∷ xs) a = (
  h x (λ s. (and_parts (test x) (list_all test xs) (a s)).0),
  map_pairs R test S f g h xs (λ s. (and_parts (test x) (list_all test xs) (a s)).1),
)

pub kept_known : {A : Type 0} (P : A → Type 0) (test : A → Bool) (xs : List A) → Every P xs →
    Every P (filter test xs)
kept_known P test [] h = tt
kept_known {A = A} P test (x ∷ xs) h = by (test x) (kept_known P test xs h.1)
  where
    by : (b : Bool) → Every P (filter test xs) →
        Every P (if b then x ∷ filter test xs else filter test xs)
    by true g = (h.0, g)
    by false g = g

module _ (c : Carrier) where
  -- one list after another, of which P holds
  pub each_pair : {A B : Type 0} (R : A → A → Type 0) (P : List B → Type 0) → P [] →
      ((xs ys : List B) → P xs → P ys → P (xs ++ ys)) → (f g : A → ℕ → Outcome (List B)) →
      ((x y : A) → R x y → (k : ℕ) → c.rel (List B) P (f x k) (g y k)) → (xs ys : List A) →
      Pairs R xs ys → (k : ℕ) → c.rel (List B) P (for_each f xs k) (for_each g ys k)
  each_pair R P none join f g h [] [] p k = c.carries.ends _ P [] k none
  each_pair R P none join f g h [] (y ∷ ys) p k = absurd p
  each_pair R P none join f g h (x ∷ xs) [] p k = absurd p
  each_pair R P none join f g h (x ∷ xs) (y ∷ ys) p k =
      c.carries.next _ _ P P (f x k) (g y k) _ _ (h x y p.0 k) (λ us j gu.
      c.carries.next _ _ P P (for_each f xs j) (for_each g ys j) _ _
      (each_pair R P none join f g h xs ys p.1 j)
      (λ vs i gv. c.carries.ends _ P (us ++ vs) i (join us vs gu gv)))
