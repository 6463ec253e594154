use Rattle.std.proofs.Common.{◌≡◌, ◌-◌, length}
use Rattle.global_order.specs.GraphOrders.Checks.{all_from, leads_no_later}
use Rattle.global_order.proofs.graph_orders.checks.all_lead_no_later.Given as goal

abbrev pub invariant-loop-place : goal.invariant-loop-place
invariant-loop-place l =
    all_from (length l.graph - l.place) l.place (leads_no_later l.graph l.latest) ≡ all_from (length l.graph) 0 (leads_no_later l.graph l.latest)
