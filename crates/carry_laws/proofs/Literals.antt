-- What is known to be a literal is one.
use Rattle.std.proofs.Common.{◌≡◌, ℕ, List, refl, sym, ap, ◌∙◌}
use Rattle.std.specs.Prelude.{true, Some}
use Rattle.xt_syntax.specs.declared.exprs.Expr.{Expr}
use Rattle.xt_syntax.specs.declared.exprs.Clause.TheViews.{roll-Expr, out-Expr, roll-out-Expr}
use Rattle.xt_syntax.specs.declared.exprs.Clause.TheOpen.{Str}
use Rattle.carried_exprs.specs.Calls.{literal_of}
use Rattle.carried_exprs.specs.Sights.{Setting}
use Rattle.carried_exprs.specs.Fits.{fit_of}
use Rattle.carried_exprs.proofs.FitRolled.{fit_expr_value, fit_expr_rolled}
use Rattle.expr_laws.proofs.Texts.{ExprForm}

literal_shape : (w : Setting) (x : ExprForm) → (fit_expr_value w x).literal ≡ true →
    (t : List ℕ) × (x ≡ Str t)
literal_shape w (Str t) h = (t, refl)
literal_shape w x h = absurd cc

pub literal_is : (w : Setting) (e : Expr) → (fit_of w e).literal ≡ true →
    (t : List ℕ) × (e ≡ roll-Expr (Str t))
literal_is w e h =
    let f = literal_shape w (out-Expr e)
    (ap (λ z. z.literal) (sym (fit_expr_rolled w (out-Expr e)))
    ∙ ap (λ x. (fit_of w x).literal) (roll-out-Expr e) ∙ h) in
    (f.0, sym (roll-out-Expr e) ∙ ap roll-Expr f.1)

pub literal_of_str : (t : List ℕ) → literal_of (roll-Expr (Str t)) ≡ Some t
unfolding out-Expr roll-Expr denote.Hole.Carrier.out denote.Hole.Carrier.roll
literal_of_str t = refl
