use Rattle.std.proofs.Common.{length}
use Rattle.std.specs.Vec.{vec_capacity}
use Rattle.node_axes.proofs.LoopLemmas.{Backing}
use Rattle.node_axes.proofs.moves.go_back.Given as goal

abbrev pub invariant-loop-place : goal.invariant-loop-place
invariant-loop-place l = Backing l.tree l.start l.initial.path.items l.path.items (vec_capacity l.initial.path) (vec_capacity l.path)

abbrev pub decreases-loop-place : goal.decreases-loop-place
decreases-loop-place l = length l.path.items
