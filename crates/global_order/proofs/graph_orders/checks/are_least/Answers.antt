use Rattle.std.proofs.Common.{arith, ◌≡◌, ◌≤◌, ◌∙◌, ap, [], ◌∷◌, length, length-append}
use Rattle.global_order.specs.GraphOrders.Checks.{at_in}
use Rattle.global_order.proofs.GraphOrders.Stretches.{begins_more, least_more}
use Rattle.global_order.proofs.graph_orders.checks.are_least.Goals as goal

pub loop-place-preserved : goal.loop-place-preserved
loop-place-preserved c =
    let order = c.args.order.now in
    let latest = c.args.latest.now in
    let place = c.loop-place.place in
    let begin = c.begin_of-begin.result in
    let items = c.in_ok-push.ensures.items in
    let size = length-append c.loop-place.begins.items (begin ∷ []) in
    let more = ap length items in
    let low = c.at_in-low.ensures ∙ ap (at_in latest) c.at_in.ensures in
    let early : begin ≤ at_in latest (at_in order place) = omega (arith, c.if-begin-low.false, low) in
    let begins = begins_more order c.loop-place.begins.items place begin c.loop-place.invariant.begins
    c.loop-place.invariant.size c.begin_of-begin.ensures.back c.begin_of-begin.ensures.below in
    record {
      size = omega (arith, more, size, c.loop-place.invariant.size);
      begins = rw items begins;
      least = least_more order latest place begin c.loop-place.invariant.least early c.begin_of-begin.ensures.below;
    }
