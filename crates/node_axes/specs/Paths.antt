-- How two paths from the root stand to each other.
use Rattle.std.specs.Prelude.{ℕ, List, [], ◌∷◌, Bool, true, false, None}
use Rattle.std.specs.declared.cmp.Ordering.{Ordering}
use Rattle.std.specs.declared.cmp.Ordering.TheVariants.{Less, Equal, Greater}
use Rattle.std.specs.Ordering.{nat_cmp}
use Rattle.xt_tree.specs.declared.trees.Tree.{Tree}
use Rattle.xt_tree.specs.Place.{subtree_at, has_attribute}

-- the first with all below it comes before the second, is above it, is it, is below it, or comes after it with all below it
pub data Stands : Type 0 where
  before : Stands
  above : Stands
  same : Stands
  below : Stands
  after : Stands

abbrev pub then_stands : Ordering → Stands → Stands
then_stands Less r = before
then_stands Equal r = r
then_stands Greater r = after

unfoldable pub stands : List ℕ → List ℕ → Stands
stands [] [] = same
stands [] (j ∷ q) = above
stands (i ∷ p) [] = below
stands (i ∷ p) (j ∷ q) = then_stands (nat_cmp i j) (stands p q)

abbrev pub is_before_all : Stands → Bool
is_before_all before = true
is_before_all above = false
is_before_all same = false
is_before_all below = false
is_before_all after = false

-- before, or above
abbrev pub is_earlier : Stands → Bool
is_earlier before = true
is_earlier above = true
is_earlier same = false
is_earlier below = false
is_earlier after = false

abbrev pub is_over : Stands → Bool
is_over before = false
is_over above = true
is_over same = true
is_over below = false
is_over after = false

-- before it, above it or it
abbrev pub is_not_later : Stands → Bool
is_not_later before = true
is_not_later above = true
is_not_later same = true
is_not_later below = false
is_not_later after = false

-- the tree has a node at the path
unfoldable pub has_path : Tree → List ℕ → Bool
has_path t p = has_attribute (subtree_at t p) None
