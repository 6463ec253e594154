-- Nodes of one tree.
use Rattle.std.specs.Prelude.{◌≡◌, Bool, true, List, ◌∷◌, []}
use Rattle.std.specs.List.{list_any}
use Rattle.xt_tree.specs.Place.{Place, has_place}

-- the second is a node of the tree of the first
pub record IsWithin (n m : Place) : Type 0 where
  pub number_is : m.number ≡ n.number
  pub tree_is : m.tree ≡ n.tree
  pub exists : has_place m ≡ true

abbrev pub AreWithin : Place → List Place → Type 0
AreWithin n [] = Unit {0}
AreWithin n (m ∷ rest) = IsWithin n m × AreWithin n rest

-- the same nodes, in whatever order and however often
abbrev pub SameNodes : List Place → List Place → Type 0
SameNodes xs ys = (p : Place → Bool) → list_any p xs ≡ list_any p ys
