use Rattle.std.proofs.Common.{rules, ◌≡◌, refl, true}
use Rattle.std.proofs.lemmas.Result.{IfOk-weaker}
use Rattle.global_order.specs.GraphOrders.Checks.{is_in_order, is_latest}
use Rattle.global_order.proofs.GraphOrders.Told.{told}
use Rattle.global_order.proofs.graph_orders.checks.is_told.Goals as goal

pub returns : goal.returns
returns c =
    let g = c.args.graph.now in
    let order = c.args.order.now in
    let places = c.args.places.now in
    let latest = c.args.latest.now in
    let ordered : is_in_order c.args.count order places latest ≡ true =
    search (rules, c.is_in_order.ensures, c.if-not-is_in_order.false) in
    let late : is_latest g c.args.at c.args.count places latest c.args.steps.now ≡ true =
    search (rules, c.is_latest.ensures, c.if-not-is_latest.false) in
    IfOk-weaker c.are_least.result _ _
    (λ least made yes. told g c.args.at c.args.count order places latest c.args.steps.now (c.if-not-sizes_are.ensures.size refl)
    (c.if-not-sizes_are.ensures.order refl) (c.if-not-sizes_are.ensures.latest refl) ordered late (made yes))
    c.are_least.ensures
