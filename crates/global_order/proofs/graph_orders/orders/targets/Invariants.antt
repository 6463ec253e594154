use Rattle.std.proofs.Common.{◌≡◌, ◌++◌, drop}
use Rattle.global_order.specs.GraphOrders.Needs.{targets}
use Rattle.global_order.proofs.graph_orders.orders.targets.Given as goal

abbrev pub invariant-loop-place : goal.invariant-loop-place
invariant-loop-place l = l.found ++ targets l.at (drop l.place-index l.places) ≡ targets l.at l.places
