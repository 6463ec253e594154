use Rattle.std.proofs.Common.{◌<◌, length, refl, arith}
use Rattle.expr_control.specs.Bindings.{clauses_and, all_clauses}
use Rattle.expr_control.proofs.Ands.{clauses_more, one_more}
use Rattle.expr_control.proofs.flwors.all_clauses.Goals as goal

pub loop-part-preserved : goal.loop-part-preserved
loop-part-preserved c =
    let lt : c.loop-part.part-index < length c.args.parts.now = omega arith in
    one_more clauses_and all_clauses clauses_more (λ m ms. refl) _ _ _ _ _ _ c.loop-part.invariant lt c.part-item.is c.in_ok-clauses.ensures
