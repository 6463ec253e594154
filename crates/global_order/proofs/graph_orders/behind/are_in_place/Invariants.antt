use Rattle.std.proofs.Common.{◌≡◌, drop}
use Rattle.global_order.specs.GraphOrders.Behind.{are_in_place}
use Rattle.global_order.proofs.graph_orders.behind.are_in_place.Given as goal

abbrev pub invariant-loop-place : goal.invariant-loop-place
invariant-loop-place l = are_in_place 0 l.numbers ≡ are_in_place l.place (drop l.place l.numbers)
