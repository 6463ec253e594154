use Rattle.walk_laws.proofs.Forward.{forward_law}
use Rattle.walk_laws.proofs.forward_steps_give_nodes_in_the_order_of_the_axis.Goals as goal

pub returns : goal.returns
returns c = forward_law
