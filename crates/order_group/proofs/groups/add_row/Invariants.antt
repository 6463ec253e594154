use Rattle.std.proofs.Common.{◌≡◌, drop}
use Rattle.order_group.specs.Groups.{atoms_of}
use Rattle.order_group.specs.Steps.{with_row}
use Rattle.order_group.proofs.groups.add_row.Given as goal

abbrev pub invariant-loop-item : goal.invariant-loop-item
invariant-loop-item l = with_row l.table (atoms_of (drop l.item-index l.row)) l.place ≡ with_row l.initial.table (atoms_of l.row) l.place
