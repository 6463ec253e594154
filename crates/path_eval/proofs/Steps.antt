-- What paths and steps mean.
use Rattle.std.proofs.Common.{◌≡◌, ap, sym, ◌∙◌, map, List}
use Rattle.expr_meaning.specs.Meaning.{outcome}
use Rattle.xt_syntax.specs.declared.exprs.Expr.{Expr}
use Rattle.xt_types.specs.declared.axes.Axis.{Axis}
use Rattle.xt_types.specs.declared.node_tests.Test.{Test}
use Rattle.xt_syntax.specs.declared.exprs.Expr.TheVariants.{Slash, Step, rolls-Slash, rolls-Step}
use Rattle.xt_syntax.specs.declared.exprs.Clause.TheFolds.{fold-roll-Expr}
use Rattle.expr_meaning.specs.Env.{Program}
use Rattle.expr_meaning.specs.Paths.{slash_of, step_of}

pub slash_means : (p : Program) (a b : Expr) →
    outcome p (Slash a b) ≡ slash_of (outcome p a) (outcome p b)
slash_means p a b =
    ap (outcome p) (sym (rolls-Slash a b))
    ∙ fold-roll-Expr _ _ _ _ _ _ _ _ _ _ _ _ _ _ _ _ _ _ _

pub step_means : (p : Program) (axis : Axis) (test : Test) (tests : List Expr) →
    outcome p (Step axis test tests) ≡ step_of axis test (map (outcome p) tests)
step_means p axis test tests =
    ap (outcome p) (sym (rolls-Step axis test tests))
    ∙ fold-roll-Expr _ _ _ _ _ _ _ _ _ _ _ _ _ _ _ _ _ _ _
