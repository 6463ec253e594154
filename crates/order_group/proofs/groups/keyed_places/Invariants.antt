use Rattle.std.proofs.Common.{◌≡◌, [], drop, map}
use Rattle.order_group.specs.Groups.{atoms_of}
use Rattle.order_group.specs.Steps.{with_rows}
use Rattle.order_group.proofs.groups.keyed_places.Given as goal

abbrev pub invariant-loop-row : goal.invariant-loop-row
invariant-loop-row l = record {
  place : l.place ≡ l.row-index;
  left : with_rows l.table l.place (map atoms_of (drop l.row-index l.keys)) ≡ with_rows [] 0 (map atoms_of l.keys);
}
