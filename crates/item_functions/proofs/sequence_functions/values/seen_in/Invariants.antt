use Rattle.std.proofs.Common.{◌≡◌, [], drop}
use Rattle.order_group.specs.Groups.{atoms_of}
use Rattle.order_group.specs.Steps.{with_row}
use Rattle.item_functions.proofs.sequence_functions.values.seen_in.Given as goal

abbrev pub invariant-loop-item : goal.invariant-loop-item
invariant-loop-item l = with_row l.table (atoms_of (drop l.item-index l.atoms)) 0 ≡ with_row [] (atoms_of l.atoms) 0
