-- Conditionals and direct elements.
use Rattle.std.specs.Prelude.{Bool, true, false}
use Rattle.xt_syntax.specs.declared.exprs.Expr.{Expr}
use Rattle.xt_syntax.specs.declared.exprs.Clause.TheOpen.{If, Direct}
use Rattle.xt_syntax.specs.declared.exprs.Clause.TheViews.{out-Expr}
use Rattle.xt_syntax.specs.Layers.{Kinds, ExprLayer}
use Rattle.expr_drafts.specs.ExprPlaces.Roots.{parts}

abbrev pub is_if_layer : (k : Kinds) → ExprLayer k → Bool
is_if_layer k (If arms e) = true
is_if_layer k _ = false

abbrev pub is_if : Expr → Bool
is_if e = is_if_layer parts (out-Expr e)

abbrev pub is_direct_layer : (k : Kinds) → ExprLayer k → Bool
is_direct_layer k (Direct n attrs ps) = true
is_direct_layer k _ = false

abbrev pub is_direct : Expr → Bool
is_direct e = is_direct_layer parts (out-Expr e)
