-- Which expressions ask one within them at each item of another.
use Rattle.std.specs.Prelude.{Bool, true, false}
use Rattle.xt_syntax.specs.declared.exprs.Expr.{Expr}
use Rattle.xt_syntax.specs.declared.exprs.Clause.{Clause}
use Rattle.xt_syntax.specs.declared.exprs.NameSource.{NameSource}
use Rattle.xt_syntax.specs.declared.exprs.Part.{Part}
use Rattle.xt_syntax.specs.declared.exprs.Arm.{Arm}
use Rattle.xt_syntax.specs.declared.exprs.Bind.{Bind}
use Rattle.xt_syntax.specs.declared.exprs.DirectAttr.{DirectAttr}
use Rattle.xt_syntax.specs.declared.exprs.Flwor.{Flwor}
use Rattle.xt_syntax.specs.declared.exprs.Order.{Order}
use Rattle.xt_syntax.specs.declared.exprs.Clause.TheViews.{out-Expr}
use Rattle.xt_syntax.specs.declared.exprs.Clause.TheOpen.{Expr-F, Slash, Step, Filter, Quant}

abbrev pub asks : Expr-F Clause Expr NameSource Part Arm Bind DirectAttr Flwor Order → Bool
asks (Slash a b) = true
asks (Step axis node_test tests) = true
asks (Filter of tests) = true
asks (Quant every binds body) = true
asks x = false

-- paths, steps, filters and quantifiers
abbrev pub asks_at_items : Expr → Bool
asks_at_items e = asks (out-Expr e)
