use Rattle.walk_laws.proofs.NodeOrders.Orders.{in_order_of_tree}
use Rattle.walk_laws.proofs.node_orders.document_order_is_the_order_of_the_tree.Goals as goal

pub returns : goal.returns
returns c = in_order_of_tree
