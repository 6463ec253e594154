use Rattle.std.proofs.Common.{◌≡◌, ◌≤◌, length}
use Rattle.xt_tree.specs.Forest.{forest_size}
use Rattle.xt_tree.specs.TreeView.{forest_of}
use Rattle.item_functions.specs.NodeFunctions.Deep.{compared}
use Rattle.item_functions.proofs.node_functions.deep.from_compared.Given as goal

abbrev pub invariant-loop-left : goal.invariant-loop-left
invariant-loop-left l = record {
  same : compared (forest_of l.left) ≡ compared (forest_of l.trees);
  size : forest_size (forest_of l.left) ≤ forest_size (forest_of l.trees);
}

abbrev pub decreases-loop-left : goal.decreases-loop-left
decreases-loop-left l = length l.left
