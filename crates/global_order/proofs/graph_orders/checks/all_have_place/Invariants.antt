use Rattle.std.proofs.Common.{◌≡◌, ◌-◌, length}
use Rattle.global_order.specs.GraphOrders.Checks.{all_from, has_place}
use Rattle.global_order.proofs.graph_orders.checks.all_have_place.Given as goal

abbrev pub invariant-loop-one : goal.invariant-loop-one
invariant-loop-one l =
    all_from (l.count - l.one) l.one (has_place (length l.order) l.places l.order)
    ≡ all_from l.count 0 (has_place (length l.order) l.places l.order)
