use Rattle.std.proofs.Common.{◌≡◌, ◌+◌, length}
use Rattle.node_axes.specs.Course.{to_come}
use Rattle.node_walks.specs.Courses.{moves_to_come}
use Rattle.node_walks.specs.Moves.{settled, steps_before}
use Rattle.node_walks.proofs.axis_walks.go_to_hit.Given as goal

abbrev pub invariant-loop-cursor : goal.invariant-loop-cursor
invariant-loop-cursor g l = record {
  left : settled (moves_to_come l.cursor) ≡ settled (moves_to_come l.initial.cursor);
  counted : l.steps + steps_before (moves_to_come l.cursor) ≡ l.initial.steps + steps_before (moves_to_come l.initial.cursor);
}

abbrev pub decreases-loop-cursor : goal.decreases-loop-cursor
decreases-loop-cursor g l = length (to_come l.cursor)
