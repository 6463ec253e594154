-- The root alone.
use Rattle.std.specs.Prelude.{Bool, true, false}
use Rattle.xt_syntax.specs.declared.exprs.Expr.{Expr}
use Rattle.xt_syntax.specs.declared.exprs.Arm.{Arm}
use Rattle.xt_syntax.specs.declared.exprs.Clause.{Clause}
use Rattle.xt_syntax.specs.declared.exprs.Order.{Order}
use Rattle.xt_syntax.specs.declared.exprs.Flwor.{Flwor}
use Rattle.xt_syntax.specs.declared.exprs.Bind.{Bind}
use Rattle.xt_syntax.specs.declared.exprs.NameSource.{NameSource}
use Rattle.xt_syntax.specs.declared.exprs.DirectAttr.{DirectAttr}
use Rattle.xt_syntax.specs.declared.exprs.Part.{Part}
use Rattle.xt_syntax.specs.declared.exprs.Clause.TheOpen.{Root}
use Rattle.xt_syntax.specs.declared.exprs.Clause.TheViews.{out-Expr}
use Rattle.xt_syntax.specs.Layers.{Kinds, ExprLayer}

-- expressions with their parts
abbrev pub parts : Kinds
parts = record {
  Clauses = Clause;
  Exprs = Expr;
  Names = NameSource;
  Parts = Part;
  Arms = Arm;
  Binds = Bind;
  Attrs = DirectAttr;
  Flwors = Flwor;
  Orders = Order;
}

abbrev pub is_root_layer : (k : Kinds) → ExprLayer k → Bool
is_root_layer k Root = true
is_root_layer k _ = false

abbrev pub is_root : Expr → Bool
is_root e = is_root_layer parts (out-Expr e)
