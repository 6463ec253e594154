use Rattle.std.proofs.Common.{◌≡◌, [], drop}
use Rattle.order_group.specs.Groups.{atoms_of}
use Rattle.order_group.specs.Steps.{with_row}
use Rattle.key_index.proofs.indexes.wanted_of.Given as goal

abbrev pub invariant-loop-item : goal.invariant-loop-item
invariant-loop-item l = with_row l.wanted (atoms_of (drop l.item-index l.values)) 0 ≡ with_row [] (atoms_of l.values) 0
