-- An expression, opened.
use Rattle.std.specs.Prelude.{List, [], ◌∷◌, Bool, false, ◌||◌}
use Rattle.xt_syntax.specs.declared.exprs.Expr.{Expr}
use Rattle.xt_syntax.specs.declared.exprs.Arm.{Arm}
use Rattle.xt_syntax.specs.declared.exprs.Clause.{Clause}
use Rattle.xt_syntax.specs.declared.exprs.Order.{Order}
use Rattle.xt_syntax.specs.declared.exprs.Flwor.{Flwor as FlworOf}
use Rattle.xt_syntax.specs.declared.exprs.Bind.{Bind}
use Rattle.xt_syntax.specs.declared.exprs.NameSource.{NameSource}
use Rattle.xt_syntax.specs.declared.exprs.DirectAttr.{DirectAttr}
use Rattle.xt_syntax.specs.declared.exprs.Part.{Part}
use Rattle.xt_syntax.specs.declared.exprs.Clause.TheOpen.{Expr-F, Arm-F, Clause-F, Bind-F, Flwor-F}

abbrev pub ExprForm : Type 0
ExprForm = Expr-F Clause Expr NameSource Part Arm Bind DirectAttr FlworOf Order

abbrev pub ClauseForm : Type 0
ClauseForm = Clause-F Clause Expr NameSource Part Arm Bind DirectAttr FlworOf Order

abbrev pub ArmForm : Type 0
ArmForm = Arm-F Clause Expr NameSource Part Arm Bind DirectAttr FlworOf Order

abbrev pub BindForm : Type 0
BindForm = Bind-F Clause Expr NameSource Part Arm Bind DirectAttr FlworOf Order

abbrev pub FlworForm : Type 0
FlworForm = Flwor-F Clause Expr NameSource Part Arm Bind DirectAttr FlworOf Order

-- a test that some item passes
abbrev pub some_of : {A : Type 0} → (A → Bool) → List A → Bool
some_of test [] = false
some_of test (x ∷ xs) = test x || some_of test xs
