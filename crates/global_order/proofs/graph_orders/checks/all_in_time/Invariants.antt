use Rattle.std.proofs.Common.{◌≡◌, ◌-◌}
use Rattle.global_order.specs.GraphOrders.Checks.{all_from, is_in_time}
use Rattle.global_order.proofs.graph_orders.checks.all_in_time.Given as goal

abbrev pub invariant-loop-one : goal.invariant-loop-one
invariant-loop-one l =
    all_from (l.count - l.one) l.one (is_in_time l.most l.places l.latest)
    ≡ all_from l.count 0 (is_in_time l.most l.places l.latest)
