-- The forms of syntax over their parts.
use Rattle.xt_syntax.specs.declared.exprs.Expr.{Expr}
use Rattle.xt_syntax.specs.declared.exprs.Arm.{Arm}
use Rattle.xt_syntax.specs.declared.exprs.Clause.{Clause}
use Rattle.xt_syntax.specs.declared.exprs.Order.{Order}
use Rattle.xt_syntax.specs.declared.exprs.Flwor.{Flwor as FlworOf}
use Rattle.xt_syntax.specs.declared.exprs.Bind.{Bind}
use Rattle.xt_syntax.specs.declared.exprs.NameSource.{NameSource}
use Rattle.xt_syntax.specs.declared.exprs.DirectAttr.{DirectAttr}
use Rattle.xt_syntax.specs.declared.exprs.Part.{Part}
use Rattle.xt_syntax.specs.declared.exprs.Clause.TheOpen.{Expr-F}

abbrev pub ExprForm : Type 0
ExprForm = Expr-F Clause Expr NameSource Part Arm Bind DirectAttr FlworOf Order
