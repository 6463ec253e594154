use Rattle.std.proofs.Common.{◌<◌, length, refl, arith}
use Rattle.expr_control.specs.Bindings.{order_and, orders_in}
use Rattle.expr_control.proofs.Ands.{order_more, one_more}
use Rattle.expr_control.proofs.orders.orders_in.Goals as goal

pub loop-part-preserved : goal.loop-part-preserved
loop-part-preserved c =
    let lt : c.loop-part.part-index < length c.args.parts.now = omega arith in
    one_more order_and orders_in order_more (λ m ms. refl) _ _ _ _ _ _ c.loop-part.invariant lt c.part-item.is c.in_ok-orders.ensures
