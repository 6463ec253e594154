use Rattle.std.proofs.Common.{◌<◌, length, refl, arith}
use Rattle.expr_primaries.specs.ExprElements.Direct.{attr_and, attrs_in}
use Rattle.expr_primaries.proofs.ExprElements.Ands.{attr_more, one_more}
use Rattle.expr_primaries.proofs.expr_elements.direct.attrs_in.Goals as goal

pub loop-part-preserved : goal.loop-part-preserved
loop-part-preserved c =
    let lt : c.loop-part.part-index < length c.args.parts.now = omega arith in
    one_more attr_and attrs_in attr_more (λ m ms. refl) _ _ _ _ _ _ c.loop-part.invariant lt c.part-item.is c.in_ok-attrs.ensures
