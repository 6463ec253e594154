use Rattle.std.proofs.Common.{◌≡◌, ◌≤◌, ◌+◌, ◌*◌, true}
use Rattle.xt_tree.specs.Forest.{forest_size}
use Rattle.xt_tree.specs.TreeView.{forest_of, tree_size}
use Rattle.item_functions.specs.NodeFunctions.Deep.{alike, compared}
use Rattle.item_functions.specs.NodeFunctions.Left.{begins_compared}
use Rattle.item_functions.proofs.node_functions.deep.+deep.Given as goal

abbrev pub invariant-same_kids-loop-left : goal.invariant-same_kids-loop-left
invariant-same_kids-loop-left l = record {
  same : alike (compared (forest_of l.left)) (compared (forest_of l.right)) ≡ alike (compared (forest_of l.kids)) (compared (forest_of l.others));
  first : begins_compared l.left ≡ true;
  second : begins_compared l.right ≡ true;
  size : forest_size (forest_of l.left) ≤ forest_size (forest_of l.kids);
}

abbrev pub decreases-same_kids-loop-left : goal.decreases-same_kids-loop-left
decreases-same_kids-loop-left l = forest_size (forest_of l.left)

abbrev pub decreases-same_trees : goal.decreases-same_trees
decreases-same_trees l = 2 * tree_size l.a.now

abbrev pub decreases-same_kids : goal.decreases-same_kids
decreases-same_kids l = 2 * forest_size (forest_of l.kids.now) + 1
