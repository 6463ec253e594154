use Rattle.std.proofs.Common.{◌≡◌, ◌≤◌, ◌-◌}
use Rattle.node_axes.specs.StepWalks.Sifted.{raised}
use Rattle.node_axes.proofs.step_walks.positions.raise.Given as goal

abbrev pub invariant-loop-place : goal.invariant-loop-place
invariant-loop-place l = record { counted : l.seen ≡ raised l.place l.initial.seen; within : l.place ≤ l.count }

abbrev pub decreases-loop-place : goal.decreases-loop-place
decreases-loop-place l = l.count - l.place
