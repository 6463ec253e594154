use Rattle.std.proofs.Common.{◌≡◌, ◌+◌, length}
use Rattle.node_axes.specs.Course.{to_come}
use Rattle.node_axes.specs.StepWalks.Hits.{hits_ahead, steps_ahead}
use Rattle.node_axes.proofs.step_walks.hits.go_to_hit.Given as goal

abbrev pub invariant-loop-cursor : goal.invariant-loop-cursor
invariant-loop-cursor g l = record {
  hits_are : hits_ahead l.cursor ≡ hits_ahead l.initial.cursor;
  steps_are : l.steps + steps_ahead l.cursor ≡ l.initial.steps + steps_ahead l.initial.cursor;
}

abbrev pub decreases-loop-cursor : goal.decreases-loop-cursor
decreases-loop-cursor g l = length (to_come l.cursor)
