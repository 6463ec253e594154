use Rattle.node_axes.proofs.StepWalks.SiftLemmas.{begins, comes}
use Rattle.node_axes.proofs.step_walks.positions.predicates_in_turn_need_no_list.Goals as goal

pub returns-clause-begin : goal.returns-clause-begin
returns-clause-begin c = begins

pub returns-clause-next : goal.returns-clause-next
returns-clause-next c = comes
