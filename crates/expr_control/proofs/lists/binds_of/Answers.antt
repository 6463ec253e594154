use Rattle.std.proofs.Common.{◌<◌, length, refl, arith}
use Rattle.expr_control.specs.Lists.{bind_and, binds_of}
use Rattle.expr_control.proofs.Ands.{bind_more, one_more}
use Rattle.expr_control.proofs.lists.binds_of.Goals as goal

pub loop-part-preserved : goal.loop-part-preserved
loop-part-preserved c =
    let lt : c.loop-part.part-index < length c.args.parts.now = omega arith in
    one_more bind_and binds_of bind_more (λ m ms. refl) _ _ _ _ _ _ c.loop-part.invariant lt c.part-item.is c.in_ok-binds.ensures
