use Rattle.std.proofs.Common.{length}
use Rattle.std.specs.Vec.{vec_capacity}
use Rattle.node_axes.proofs.LoopLemmas.{Climbing}
use Rattle.node_axes.proofs.moves.skip.Given as goal

abbrev pub invariant-loop-path : goal.invariant-loop-path
invariant-loop-path l = Climbing l.tree l.base l.initial.path.items l.path.items (vec_capacity l.initial.path) (vec_capacity l.path)

abbrev pub decreases-loop-path : goal.decreases-loop-path
decreases-loop-path l = length l.path.items
