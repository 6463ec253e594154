use Rattle.node_axes.proofs.StepWalks.HitLemmas.{gave_nothing, gave_node}
use Rattle.node_axes.proofs.step_walks.hits.walk_to_hit.Goals as goal

pub returns-then-not-go_to_hit : goal.returns-then-not-go_to_hit
returns-then-not-go_to_hit g c = gave_nothing c.go_to_hit.result c.go_to_hit.new.cursor _ _ c.if-not-go_to_hit.true c.go_to_hit.ensures.gives

pub returns : goal.returns
returns g c = gave_node c.go_to_hit.result c.go_to_hit.new.cursor c.in_ok-node.node _ _ c.if-not-go_to_hit.false c.in_ok-node.ensures c.go_to_hit.ensures.gives
