use Rattle.std.proofs.Common.{◌≡◌, ◌+◌, length}
use Rattle.sheet_values.specs.Priorities.{point_place}
use Rattle.sheet_values.proofs.priorities.point_place.Given as goal

abbrev pub invariant-loop-left : goal.invariant-loop-left
invariant-loop-left l = record {
  place : l.place + point_place l.left ≡ point_place l.text;
  size : l.place + length l.left ≡ length l.text;
}

abbrev pub decreases-loop-left : goal.decreases-loop-left
decreases-loop-left l = length l.left
