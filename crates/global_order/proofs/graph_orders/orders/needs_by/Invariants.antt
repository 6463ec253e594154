use Rattle.std.proofs.Common.{◌≡◌, ◌++◌, ◌-◌}
use Rattle.global_order.specs.GraphOrders.Needs.{needs_from}
use Rattle.global_order.proofs.graph_orders.orders.needs_by.Given as goal

abbrev pub invariant-loop-place : goal.invariant-loop-place
invariant-loop-place l =
    l.all ++ needs_from (l.count - l.place) l.place l.graph l.at
    ≡ needs_from l.count 0 l.graph l.at
