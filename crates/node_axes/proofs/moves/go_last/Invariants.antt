use Rattle.std.proofs.Common.{◌-◌, length}
use Rattle.std.specs.Vec.{vec_capacity}
use Rattle.xt_tree.specs.TreeView.{tree_depth}
use Rattle.node_axes.proofs.LoopLemmas.{Sinking}
use Rattle.node_axes.proofs.moves.go_last.Given as goal

abbrev pub invariant-loop-count : goal.invariant-loop-count
invariant-loop-count l = Sinking l.tree l.initial.path.items l.path.items l.count (vec_capacity l.initial.path) (vec_capacity l.path)

abbrev pub decreases-loop-count : goal.decreases-loop-count
decreases-loop-count l = tree_depth l.tree - length l.path.items
