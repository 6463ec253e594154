use Rattle.std.proofs.Common.{subst}
use Rattle.xt_atoms.specs.Casts.{Answers}
use Rattle.operator_values.specs.Nodes.{is_less, precedes}
use Rattle.operator_values.proofs.node_operators.precedes.Goals as goal

pub returns : goal.returns
unfolding precedes
returns c = subst (λ o. Answers (is_less o) c.is_less.result) c.order.ensures c.is_less.ensures
