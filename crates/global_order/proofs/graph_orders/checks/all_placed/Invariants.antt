use Rattle.std.proofs.Common.{◌≡◌, ◌-◌, length}
use Rattle.global_order.specs.GraphOrders.Checks.{all_from, is_placed}
use Rattle.global_order.proofs.graph_orders.checks.all_placed.Given as goal

abbrev pub invariant-loop-place : goal.invariant-loop-place
invariant-loop-place l =
    all_from (length l.order - l.place) l.place (is_placed l.count l.order l.places)
    ≡ all_from (length l.order) 0 (is_placed l.count l.order l.places)
