use Rattle.std.proofs.Common.{◌≡◌, length}
use Rattle.item_functions.specs.NodeFunctions.Deep.{deep_equal}
use Rattle.item_functions.proofs.node_functions.deep.deep_equal.Given as goal

abbrev pub invariant-loop-left : goal.invariant-loop-left
invariant-loop-left l = deep_equal l.left l.right ≡ deep_equal l.items l.others

abbrev pub decreases-loop-left : goal.decreases-loop-left
decreases-loop-left l = length l.left
