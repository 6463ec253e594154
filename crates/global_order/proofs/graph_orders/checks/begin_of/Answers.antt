use Rattle.std.proofs.Common.{arith, ◌<◌, ◌≤◌, ◌-◌}
use Rattle.global_order.specs.GraphOrders.Checks.{at_in}
use Rattle.global_order.proofs.GraphOrders.Stretches.{stretch, stretch_back}
use Rattle.global_order.proofs.graph_orders.checks.begin_of.Goals as goal

pub loop-begin-preserved : goal.loop-begin-preserved
loop-begin-preserved c =
    let order = c.args.order.now in
    let begins = c.args.begins.now in
    let begin = c.loop-begin.begin in
    let is = c.at_in-begin.ensures in
    let some : 1 ≤ begin = omega (arith, c.loop-begin-test.true) in
    let less : at_in order (begin - 1) < at_in order c.args.place =
    omega (arith, c.if-at_in.true, c.at_in.ensures, c.at_in-in-loop-begin.ensures) in
    let back = stretch_back order begins c.args.place begin c.requires some c.loop-begin.invariant.back in
    let below = stretch order begins c.args.place begin c.requires some c.loop-begin.invariant.back less c.loop-begin.invariant.below in
    record {
      back = omega (arith, is, back, c.loop-begin.invariant.back);
      below = λ t low high. below t (omega (arith, is, low)) high;
    }
