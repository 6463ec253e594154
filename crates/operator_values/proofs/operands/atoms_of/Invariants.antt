use Rattle.std.proofs.Common.{◌≡◌, ◌++◌, drop, map}
use Rattle.operator_values.specs.Operands.{atom_of}
use Rattle.operator_values.proofs.operands.atoms_of.Given as goal

abbrev pub invariant-loop-item : goal.invariant-loop-item
invariant-loop-item l = l.atoms.items ++ map atom_of (drop l.item-index l.items)
    ≡ map atom_of l.items
