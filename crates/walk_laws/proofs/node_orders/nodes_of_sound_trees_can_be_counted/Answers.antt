use Rattle.walk_laws.proofs.NodeOrders.Counts.{axis_short, order_short, all_countable, sound_law}
use Rattle.walk_laws.proofs.node_orders.nodes_of_sound_trees_can_be_counted.Goals as goal

pub returns-clause-sound : goal.returns-clause-sound
returns-clause-sound c = sound_law

pub returns-clause-others : goal.returns-clause-others
returns-clause-others c = all_countable

pub returns-clause-axis : goal.returns-clause-axis
returns-clause-axis c = axis_short

pub returns-clause-ordered : goal.returns-clause-ordered
returns-clause-ordered c = order_short
