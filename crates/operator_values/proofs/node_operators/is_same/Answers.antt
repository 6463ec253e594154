use Rattle.std.proofs.Common.{ap, ◌∙◌}
use Rattle.operator_values.specs.Nodes.{is_equal, same_node}
use Rattle.operator_values.proofs.node_operators.is_same.Goals as goal

pub returns : goal.returns
unfolding same_node
returns c = c.is_equal.ensures ∙ ap is_equal c.order.ensures
