-- The meanings of the forms of which ways are made.
use Rattle.std.proofs.Common.{◌≡◌, List, map, refl, ap, ◌∙◌}
use Rattle.xt_types.specs.declared.axes.Axis.{Axis}
use Rattle.xt_types.specs.declared.node_tests.Test.{Test}
use Rattle.xt_syntax.specs.declared.exprs.Expr.{Expr}
use Rattle.xt_syntax.specs.declared.exprs.Clause.TheOpen.{Context, Root, Slash, Step}
use Rattle.xt_syntax.specs.declared.exprs.Clause.TheViews.{out-Expr, roll-Expr}
use Rattle.xt_syntax.specs.declared.exprs.Clause.TheFolds.{fold-roll-Expr}
use Rattle.expr_meaning.specs.Env.{Meaning, Program}
use Rattle.expr_meaning.specs.Meaning.{outcome}
use Rattle.expr_meaning.specs.Paths.{root_of, slash_of, step_of}
use Rattle.expr_meaning.specs.Values.{context}
use Rattle.quiet_eval.proofs.CaseLemmas.{from_out}

pub step_rolled : (p : Program) (along : Axis) (wanted : Test) (tests : List Expr) →
    outcome p (roll-Expr (Step along wanted tests)) ≡ step_of along wanted (map (outcome p) tests)
step_rolled p along wanted tests =
    fold-roll-Expr _ _ _ _ _ _ _ _ _ _ _ _ _ _ _ _ _ _ (Step along wanted tests)

pub slash_rolled : (p : Program) (a b : Expr) →
    outcome p (roll-Expr (Slash a b)) ≡ slash_of (outcome p a) (outcome p b)
slash_rolled p a b = fold-roll-Expr _ _ _ _ _ _ _ _ _ _ _ _ _ _ _ _ _ _ (Slash a b)

context_rolled : (p : Program) → outcome p (roll-Expr Context) ≡ context
context_rolled p = fold-roll-Expr _ _ _ _ _ _ _ _ _ _ _ _ _ _ _ _ _ _ Context

root_rolled : (p : Program) → outcome p (roll-Expr Root) ≡ root_of
root_rolled p = fold-roll-Expr _ _ _ _ _ _ _ _ _ _ _ _ _ _ _ _ _ _ Root

pub step_means : (p : Program) (e : Expr) (along : Axis) (wanted : Test) (tests : List Expr) →
    out-Expr e ≡ Step along wanted tests →
    outcome p e ≡ step_of along wanted (map (outcome p) tests)
step_means p e along wanted tests h =
    ap (outcome p) (from_out e (Step along wanted tests) h) ∙ step_rolled p along wanted tests

pub slash_means : (p : Program) (e a b : Expr) → out-Expr e ≡ Slash a b →
    outcome p e ≡ slash_of (outcome p a) (outcome p b)
slash_means p e a b h = ap (outcome p) (from_out e (Slash a b) h) ∙ slash_rolled p a b

pub context_means : (p : Program) (e : Expr) → out-Expr e ≡ Context → outcome p e ≡ context
context_means p e h = ap (outcome p) (from_out e Context h) ∙ context_rolled p

pub root_means : (p : Program) (e : Expr) → out-Expr e ≡ Root → outcome p e ≡ root_of
root_means p e h = ap (outcome p) (from_out e Root h) ∙ root_rolled p
