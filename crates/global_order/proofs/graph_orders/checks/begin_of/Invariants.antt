use Rattle.std.proofs.Common.{◌≤◌}
use Rattle.global_order.specs.GraphOrders.Checks.{AreBelow}
use Rattle.global_order.proofs.graph_orders.checks.begin_of.Given as goal

abbrev pub invariant-loop-begin : goal.invariant-loop-begin
invariant-loop-begin l =
    record {
      back : l.begin ≤ l.place;
      below : AreBelow l.order l.begin l.place;
    }

abbrev pub decreases-loop-begin : goal.decreases-loop-begin
decreases-loop-begin l = l.begin
