use Rattle.std.proofs.Common.{◌≡◌, ◌++◌, length}
use Rattle.node_axes.specs.StepWalks.Hits.{hits_ahead}
use Rattle.quiet_eval.proofs.step_hits.hits_ahead.Given as goal

abbrev pub invariant-loop-nodes : goal.invariant-loop-nodes
invariant-loop-nodes l = l.nodes.items ++ hits_ahead l.cursor ≡ hits_ahead l.fn.cursor

abbrev pub decreases-loop-nodes : goal.decreases-loop-nodes
decreases-loop-nodes l = length (hits_ahead l.cursor)
