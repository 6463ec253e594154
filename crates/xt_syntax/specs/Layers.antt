-- Recursion over expressions and their parts: what each form gives, once its parts have given theirs.
use Rattle.xt_syntax.specs.declared.exprs.Expr.{Expr}
use Rattle.xt_syntax.specs.declared.exprs.Arm.{Arm}
use Rattle.xt_syntax.specs.declared.exprs.Clause.{Clause}
use Rattle.xt_syntax.specs.declared.exprs.Order.{Order}
use Rattle.xt_syntax.specs.declared.exprs.Flwor.{Flwor}
use Rattle.xt_syntax.specs.declared.exprs.Bind.{Bind}
use Rattle.xt_syntax.specs.declared.exprs.NameSource.{NameSource}
use Rattle.xt_syntax.specs.declared.exprs.DirectAttr.{DirectAttr}
use Rattle.xt_syntax.specs.declared.exprs.Part.{Part}
use Rattle.xt_syntax.specs.declared.exprs.Clause.TheFolds.{fold-Expr, fold-Arm, fold-Clause, fold-Order, fold-Flwor, fold-Bind, fold-NameSource, fold-DirectAttr, fold-Part}
use Rattle.xt_syntax.specs.declared.exprs.Clause.TheOpen.{Expr-F, Arm-F, Clause-F, Order-F, Flwor-F, Bind-F, NameSource-F, DirectAttr-F, Part-F}

-- what the parts of each kind give
pub record Kinds : Type 1 where
  pub Clauses : Type 0
  pub Exprs : Type 0
  pub Names : Type 0
  pub Parts : Type 0
  pub Arms : Type 0
  pub Binds : Type 0
  pub Attrs : Type 0
  pub Flwors : Type 0
  pub Orders : Type 0

abbrev pub ExprLayer : Kinds → Type 0
ExprLayer k = Expr-F k.Clauses k.Exprs k.Names k.Parts k.Arms k.Binds k.Attrs k.Flwors k.Orders

abbrev pub ClauseLayer : Kinds → Type 0
ClauseLayer k = Clause-F k.Clauses k.Exprs k.Names k.Parts k.Arms k.Binds k.Attrs k.Flwors k.Orders

abbrev pub NameLayer : Kinds → Type 0
NameLayer k = NameSource-F k.Clauses k.Exprs k.Names k.Parts k.Arms k.Binds k.Attrs k.Flwors k.Orders

abbrev pub PartLayer : Kinds → Type 0
PartLayer k = Part-F k.Clauses k.Exprs k.Names k.Parts k.Arms k.Binds k.Attrs k.Flwors k.Orders

abbrev pub ArmLayer : Kinds → Type 0
ArmLayer k = Arm-F k.Clauses k.Exprs k.Names k.Parts k.Arms k.Binds k.Attrs k.Flwors k.Orders

abbrev pub BindLayer : Kinds → Type 0
BindLayer k = Bind-F k.Clauses k.Exprs k.Names k.Parts k.Arms k.Binds k.Attrs k.Flwors k.Orders

abbrev pub AttrLayer : Kinds → Type 0
AttrLayer k = DirectAttr-F k.Clauses k.Exprs k.Names k.Parts k.Arms k.Binds k.Attrs k.Flwors k.Orders

abbrev pub FlworLayer : Kinds → Type 0
FlworLayer k = Flwor-F k.Clauses k.Exprs k.Names k.Parts k.Arms k.Binds k.Attrs k.Flwors k.Orders

abbrev pub OrderLayer : Kinds → Type 0
OrderLayer k = Order-F k.Clauses k.Exprs k.Names k.Parts k.Arms k.Binds k.Attrs k.Flwors k.Orders

-- a step for each kind of part
pub record Steps (k : Kinds) : Type 0 where
  pub of_expr : ExprLayer k → k.Exprs
  pub of_clause : ClauseLayer k → k.Clauses
  pub of_name : NameLayer k → k.Names
  pub of_part : PartLayer k → k.Parts
  pub of_arm : ArmLayer k → k.Arms
  pub of_bind : BindLayer k → k.Binds
  pub of_attr : AttrLayer k → k.Attrs
  pub of_flwor : FlworLayer k → k.Flwors
  pub of_order : OrderLayer k → k.Orders

module _ (k : Kinds) (s : Steps k) where
  abbrev pub expr_gives : Expr → k.Exprs
  expr_gives = fold-Expr k.Clauses k.Exprs k.Names k.Parts k.Arms k.Binds k.Attrs k.Flwors k.Orders s.of_clause s.of_expr s.of_name s.of_part s.of_arm s.of_bind s.of_attr s.of_flwor s.of_order

  abbrev pub clause_gives : Clause → k.Clauses
  clause_gives = fold-Clause k.Clauses k.Exprs k.Names k.Parts k.Arms k.Binds k.Attrs k.Flwors k.Orders s.of_clause s.of_expr s.of_name s.of_part s.of_arm s.of_bind s.of_attr s.of_flwor s.of_order

  abbrev pub name_gives : NameSource → k.Names
  name_gives = fold-NameSource k.Clauses k.Exprs k.Names k.Parts k.Arms k.Binds k.Attrs k.Flwors k.Orders s.of_clause s.of_expr s.of_name s.of_part s.of_arm s.of_bind s.of_attr s.of_flwor s.of_order

  abbrev pub part_gives : Part → k.Parts
  part_gives = fold-Part k.Clauses k.Exprs k.Names k.Parts k.Arms k.Binds k.Attrs k.Flwors k.Orders s.of_clause s.of_expr s.of_name s.of_part s.of_arm s.of_bind s.of_attr s.of_flwor s.of_order

  abbrev pub arm_gives : Arm → k.Arms
  arm_gives = fold-Arm k.Clauses k.Exprs k.Names k.Parts k.Arms k.Binds k.Attrs k.Flwors k.Orders s.of_clause s.of_expr s.of_name s.of_part s.of_arm s.of_bind s.of_attr s.of_flwor s.of_order

  abbrev pub bind_gives : Bind → k.Binds
  bind_gives = fold-Bind k.Clauses k.Exprs k.Names k.Parts k.Arms k.Binds k.Attrs k.Flwors k.Orders s.of_clause s.of_expr s.of_name s.of_part s.of_arm s.of_bind s.of_attr s.of_flwor s.of_order

  abbrev pub attr_gives : DirectAttr → k.Attrs
  attr_gives = fold-DirectAttr k.Clauses k.Exprs k.Names k.Parts k.Arms k.Binds k.Attrs k.Flwors k.Orders s.of_clause s.of_expr s.of_name s.of_part s.of_arm s.of_bind s.of_attr s.of_flwor s.of_order

  abbrev pub flwor_gives : Flwor → k.Flwors
  flwor_gives = fold-Flwor k.Clauses k.Exprs k.Names k.Parts k.Arms k.Binds k.Attrs k.Flwors k.Orders s.of_clause s.of_expr s.of_name s.of_part s.of_arm s.of_bind s.of_attr s.of_flwor s.of_order

  abbrev pub order_gives : Order → k.Orders
  order_gives = fold-Order k.Clauses k.Exprs k.Names k.Parts k.Arms k.Binds k.Attrs k.Flwors k.Orders s.of_clause s.of_expr s.of_name s.of_part s.of_arm s.of_bind s.of_attr s.of_flwor s.of_order
