use Rattle.std.proofs.Common.{◌∙◌, sym}
use Rattle.global_order.proofs.GraphOrders.RightOrders.{order_is}
use Rattle.global_order.proofs.graph_orders.orders.guessed.Goals as goal

pub returns-then-told : goal.returns-then-told
returns-then-told c =
    c.of_vec.ensures
    ∙ (sym c.as_slice.ensures.value
    ∙ order_is c.args.graph.now c.args.at c.args.count c.as_slice.result.now c.as_slice-2.result.now
    c.as_slice-3.result.now c.as_slice-4.result.now (c.in_ok-told.ensures c.if-told.true))
