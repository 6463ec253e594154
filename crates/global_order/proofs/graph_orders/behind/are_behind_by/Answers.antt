use Rattle.global_order.proofs.GraphOrders.BehindLemmas.{order_tells}
use Rattle.global_order.proofs.graph_orders.behind.are_behind_by.Goals as goal

pub returns : goal.returns
returns c =
    order_tells c.args.graph.now c.args.at c.args.count c.in_ok-order.order c.as_slice.result.now
    c.is_whole_order-whole.result c.in_ok-order.ensures c.as_slice.ensures c.is_whole_order-whole.ensures
