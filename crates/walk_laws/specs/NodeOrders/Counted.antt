-- Nodes that can be counted (XDM, 2.4).
use Rattle.std.specs.Prelude.{◌≡◌, ◌<◌, ◌^◌, List, [], ◌∷◌, true}
use Rattle.xt_tree.specs.Place.{Place, has_place}
use Rattle.xt_tree.specs.TreeView.{tree_size}

-- a node of a tree of fewer than 2^63 nodes, as a sound tree is
pub record IsCountable (n : Place) : Type 0 where
  pub exists : has_place n ≡ true
  pub few : tree_size n.tree < 2 ^ 63

abbrev pub AreCountable : List Place → Type 0
AreCountable [] = Unit {0}
AreCountable (n ∷ ns) = IsCountable n × AreCountable ns
