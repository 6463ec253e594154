use Rattle.std.proofs.Common.{◌≡◌, ◌++◌, drop}
use Rattle.operator_values.proofs.node_sets.joined.Given as goal

abbrev pub invariant-loop-item : goal.invariant-loop-item
invariant-loop-item l = l.items ++ drop l.item-index l.right ≡ l.left ++ l.right
