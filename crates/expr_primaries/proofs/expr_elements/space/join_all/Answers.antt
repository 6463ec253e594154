use Rattle.std.proofs.Common.{◌<◌, length, arith}
use Rattle.expr_primaries.proofs.ExprElements.Pours.{poured_first, poured_step}
use Rattle.expr_primaries.proofs.expr_elements.space.join_all.Goals as goal

pub loop-part-init : goal.loop-part-init
loop-part-init c = poured_first _ _ _ c.new-joined.ensures

pub loop-part-preserved : goal.loop-part-preserved
loop-part-preserved c =
    let lt : c.loop-part.part-index < length c.args.parts.now = omega arith in
    poured_step _ _ _ _ _ _ _ c.loop-part.invariant lt c.part-item.is c.in_ok-joined.ensures
