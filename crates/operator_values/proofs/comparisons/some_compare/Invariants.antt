use Rattle.std.proofs.Common.{◌≡◌, drop, map}
use Rattle.operator_values.specs.Operands.{atom_of}
use Rattle.operator_values.specs.Comparisons.{some_compare}
use Rattle.operator_values.proofs.comparisons.some_compare.Given as goal

abbrev pub invariant-loop-item : goal.invariant-loop-item
invariant-loop-item l =
    some_compare l.op (map atom_of (drop l.item-index l.left)) l.right
    ≡ some_compare l.op (map atom_of l.left) l.right
