use Rattle.global_order.proofs.GraphOrders.Turns.{turn}
use Rattle.global_order.proofs.graph_orders.orders.needs_by.Goals as goal

pub loop-place-preserved : goal.loop-place-preserved
loop-place-preserved c =
    turn c.loop-place.all c.push.new.self _ c.in_ok-needs_of.field-0 c.args.count c.loop-place.place c.args.at
    c.args.graph.now c.loop-place-test.true c.in_ok-needs_of.ensures c.in_ok-push.ensures.ok c.loop-place.invariant
