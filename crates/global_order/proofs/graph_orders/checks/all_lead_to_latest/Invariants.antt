use Rattle.std.proofs.Common.{◌≡◌, ◌-◌}
use Rattle.global_order.specs.GraphOrders.Checks.{all_from, leads_to_latest}
use Rattle.global_order.proofs.graph_orders.checks.all_lead_to_latest.Given as goal

abbrev pub invariant-loop-place : goal.invariant-loop-place
invariant-loop-place l =
    all_from (l.at - l.place) l.place (leads_to_latest l.graph l.latest l.steps) ≡ all_from l.at 0 (leads_to_latest l.graph l.latest l.steps)
