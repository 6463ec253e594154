use Rattle.std.proofs.Common.{◌≡◌, ◌<◌, length, ℕ}
use Rattle.global_order.specs.GraphOrders.Checks.{at_in, AreBelow, Begins, AreLeast}
use Rattle.global_order.proofs.graph_orders.checks.are_least.Given as goal

abbrev pub invariant-loop-place : goal.invariant-loop-place
invariant-loop-place l =
    record {
      size : length l.begins.items ≡ l.place;
      begins : Begins l.order l.begins.items l.place;
      least : AreLeast l.order l.latest l.place;
    }
