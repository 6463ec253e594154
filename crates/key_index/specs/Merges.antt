-- Two rising lists of places, merged.
use Rattle.std.specs.Prelude.{ℕ, List, [], ◌∷◌}
use Rattle.std.specs.Ordering.{nat_cmp}
use Rattle.std.specs.declared.cmp.Ordering.{Ordering}
use Rattle.std.specs.declared.cmp.Ordering.TheVariants.{Less, Equal, Greater}

abbrev pub next_of : Ordering → ℕ → ℕ → List ℕ → List ℕ → List ℕ → List ℕ
next_of Less x y left both right = x ∷ left
next_of Equal x y left both right = x ∷ both
next_of Greater x y left both right = y ∷ right

-- in order, and each place once
unfoldable pub merged : List ℕ → List ℕ → List ℕ
merged [] ys = ys
merged (x ∷ xs) [] = x ∷ xs
merged (x ∷ xs) (y ∷ ys) = next_of (nat_cmp x y) x y (merged xs (y ∷ ys)) (merged xs ys) (merged (x ∷ xs) ys)
