-- What moved expressions are, and whether they fit, form by form.
use Rattle.std.proofs.Common.{◌≡◌}
use Rattle.xt_syntax.specs.declared.exprs.Expr.{Expr}
use Rattle.xt_syntax.specs.declared.exprs.Arm.{Arm}
use Rattle.xt_syntax.specs.declared.exprs.Clause.{Clause}
use Rattle.xt_syntax.specs.declared.exprs.Order.{Order}
use Rattle.xt_syntax.specs.declared.exprs.Flwor.{Flwor as FlworOf}
use Rattle.xt_syntax.specs.declared.exprs.Bind.{Bind}
use Rattle.xt_syntax.specs.declared.exprs.NameSource.{NameSource}
use Rattle.xt_syntax.specs.declared.exprs.DirectAttr.{DirectAttr}
use Rattle.xt_syntax.specs.declared.exprs.Part.{Part}
use Rattle.xt_syntax.specs.declared.exprs.Clause.TheOpen.{Expr-F, Arm-F, Clause-F, Order-F}
use Rattle.xt_syntax.specs.declared.exprs.Clause.TheOpen.{Flwor-F, Bind-F, NameSource-F, DirectAttr-F}
use Rattle.xt_syntax.specs.declared.exprs.Clause.TheOpen.{Part-F}
use Rattle.xt_syntax.specs.declared.exprs.Clause.TheViews.{roll-Expr, roll-Arm, roll-Clause}
use Rattle.xt_syntax.specs.declared.exprs.Clause.TheViews.{roll-Order, roll-Flwor, roll-Bind}
use Rattle.xt_syntax.specs.declared.exprs.Clause.TheViews.{roll-NameSource, roll-DirectAttr, roll-Part}
use Rattle.xt_syntax.specs.declared.exprs.Clause.TheFolds.{fold-roll-Expr, fold-roll-Arm}
use Rattle.xt_syntax.specs.declared.exprs.Clause.TheFolds.{fold-roll-Clause, fold-roll-Order}
use Rattle.xt_syntax.specs.declared.exprs.Clause.TheFolds.{fold-roll-Flwor, fold-roll-Bind}
use Rattle.xt_syntax.specs.declared.exprs.Clause.TheFolds.{fold-roll-NameSource, fold-roll-Part}
use Rattle.xt_syntax.specs.declared.exprs.Clause.TheFolds.{fold-roll-DirectAttr}
use Rattle.xt_syntax.specs.declared.exprs.Clause.TheFolds.{map-Expr, map-Arm, map-Clause, map-Order}
use Rattle.xt_syntax.specs.declared.exprs.Clause.TheFolds.{map-Flwor, map-Bind, map-NameSource}
use Rattle.xt_syntax.specs.declared.exprs.Clause.TheFolds.{map-DirectAttr, map-Part}
use Rattle.xt_syntax.specs.Layers.{Kinds, Steps, ExprLayer, ArmLayer, ClauseLayer, OrderLayer, FlworLayer}
use Rattle.xt_syntax.specs.Layers.{BindLayer, NameLayer, AttrLayer, PartLayer}
use Rattle.xt_syntax.specs.Layers.{clause_gives, name_gives, part_gives, arm_gives}
use Rattle.xt_syntax.specs.Layers.{bind_gives, attr_gives, flwor_gives, order_gives, expr_gives}

-- any recursion, form by form
module _ (k : Kinds) (t : Steps k) where
  abbrev pub expr_layer : Expr-F Clause Expr NameSource Part Arm Bind DirectAttr FlworOf Order → ExprLayer k
  expr_layer = map-Expr Clause Expr NameSource Part Arm Bind DirectAttr FlworOf Order
      k.Clauses k.Exprs k.Names k.Parts k.Arms k.Binds k.Attrs k.Flwors k.Orders
      (clause_gives k t) (expr_gives k t) (name_gives k t) (part_gives k t) (arm_gives k t) (bind_gives k t) (attr_gives k t) (flwor_gives k t) (order_gives k t)

  pub expr_rolled : (x : Expr-F Clause Expr NameSource Part Arm Bind DirectAttr FlworOf Order) → expr_gives k t (roll-Expr x) ≡ t.of_expr (expr_layer x)
  expr_rolled x = fold-roll-Expr _ _ _ _ _ _ _ _ _ _ _ _ _ _ _ _ _ _ x

  abbrev pub arm_layer : Arm-F Clause Expr NameSource Part Arm Bind DirectAttr FlworOf Order → ArmLayer k
  arm_layer = map-Arm Clause Expr NameSource Part Arm Bind DirectAttr FlworOf Order
      k.Clauses k.Exprs k.Names k.Parts k.Arms k.Binds k.Attrs k.Flwors k.Orders
      (clause_gives k t) (expr_gives k t) (name_gives k t) (part_gives k t) (arm_gives k t) (bind_gives k t) (attr_gives k t) (flwor_gives k t) (order_gives k t)

  pub arm_rolled : (x : Arm-F Clause Expr NameSource Part Arm Bind DirectAttr FlworOf Order) → arm_gives k t (roll-Arm x) ≡ t.of_arm (arm_layer x)
  arm_rolled x = fold-roll-Arm _ _ _ _ _ _ _ _ _ _ _ _ _ _ _ _ _ _ x

  abbrev pub clause_layer : Clause-F Clause Expr NameSource Part Arm Bind DirectAttr FlworOf Order → ClauseLayer k
  clause_layer = map-Clause Clause Expr NameSource Part Arm Bind DirectAttr FlworOf Order
      k.Clauses k.Exprs k.Names k.Parts k.Arms k.Binds k.Attrs k.Flwors k.Orders
      (clause_gives k t) (expr_gives k t) (name_gives k t) (part_gives k t) (arm_gives k t) (bind_gives k t) (attr_gives k t) (flwor_gives k t) (order_gives k t)

  pub clause_rolled : (x : Clause-F Clause Expr NameSource Part Arm Bind DirectAttr FlworOf Order) → clause_gives k t (roll-Clause x) ≡ t.of_clause (clause_layer x)
  clause_rolled x = fold-roll-Clause _ _ _ _ _ _ _ _ _ _ _ _ _ _ _ _ _ _ x

  abbrev pub order_layer : Order-F Clause Expr NameSource Part Arm Bind DirectAttr FlworOf Order → OrderLayer k
  order_layer = map-Order Clause Expr NameSource Part Arm Bind DirectAttr FlworOf Order
      k.Clauses k.Exprs k.Names k.Parts k.Arms k.Binds k.Attrs k.Flwors k.Orders
      (clause_gives k t) (expr_gives k t) (name_gives k t) (part_gives k t) (arm_gives k t) (bind_gives k t) (attr_gives k t) (flwor_gives k t) (order_gives k t)

  pub order_rolled : (x : Order-F Clause Expr NameSource Part Arm Bind DirectAttr FlworOf Order) → order_gives k t (roll-Order x) ≡ t.of_order (order_layer x)
  order_rolled x = fold-roll-Order _ _ _ _ _ _ _ _ _ _ _ _ _ _ _ _ _ _ x

  abbrev pub flwor_layer : Flwor-F Clause Expr NameSource Part Arm Bind DirectAttr FlworOf Order → FlworLayer k
  flwor_layer = map-Flwor Clause Expr NameSource Part Arm Bind DirectAttr FlworOf Order
      k.Clauses k.Exprs k.Names k.Parts k.Arms k.Binds k.Attrs k.Flwors k.Orders
      (clause_gives k t) (expr_gives k t) (name_gives k t) (part_gives k t) (arm_gives k t) (bind_gives k t) (attr_gives k t) (flwor_gives k t) (order_gives k t)

  pub flwor_rolled : (x : Flwor-F Clause Expr NameSource Part Arm Bind DirectAttr FlworOf Order) → flwor_gives k t (roll-Flwor x) ≡ t.of_flwor (flwor_layer x)
  flwor_rolled x = fold-roll-Flwor _ _ _ _ _ _ _ _ _ _ _ _ _ _ _ _ _ _ x

  abbrev pub bind_layer : Bind-F Clause Expr NameSource Part Arm Bind DirectAttr FlworOf Order → BindLayer k
  bind_layer = map-Bind Clause Expr NameSource Part Arm Bind DirectAttr FlworOf Order
      k.Clauses k.Exprs k.Names k.Parts k.Arms k.Binds k.Attrs k.Flwors k.Orders
      (clause_gives k t) (expr_gives k t) (name_gives k t) (part_gives k t) (arm_gives k t) (bind_gives k t) (attr_gives k t) (flwor_gives k t) (order_gives k t)

  pub bind_rolled : (x : Bind-F Clause Expr NameSource Part Arm Bind DirectAttr FlworOf Order) → bind_gives k t (roll-Bind x) ≡ t.of_bind (bind_layer x)
  bind_rolled x = fold-roll-Bind _ _ _ _ _ _ _ _ _ _ _ _ _ _ _ _ _ _ x

  abbrev pub name_layer : NameSource-F Clause Expr NameSource Part Arm Bind DirectAttr FlworOf Order → NameLayer k
  name_layer = map-NameSource Clause Expr NameSource Part Arm Bind DirectAttr FlworOf Order
      k.Clauses k.Exprs k.Names k.Parts k.Arms k.Binds k.Attrs k.Flwors k.Orders
      (clause_gives k t) (expr_gives k t) (name_gives k t) (part_gives k t) (arm_gives k t) (bind_gives k t) (attr_gives k t) (flwor_gives k t) (order_gives k t)

  pub name_rolled : (x : NameSource-F Clause Expr NameSource Part Arm Bind DirectAttr FlworOf Order) → name_gives k t (roll-NameSource x) ≡ t.of_name (name_layer x)
  name_rolled x = fold-roll-NameSource _ _ _ _ _ _ _ _ _ _ _ _ _ _ _ _ _ _ x

  abbrev pub attr_layer : DirectAttr-F Clause Expr NameSource Part Arm Bind DirectAttr FlworOf Order → AttrLayer k
  attr_layer = map-DirectAttr Clause Expr NameSource Part Arm Bind DirectAttr FlworOf Order
      k.Clauses k.Exprs k.Names k.Parts k.Arms k.Binds k.Attrs k.Flwors k.Orders
      (clause_gives k t) (expr_gives k t) (name_gives k t) (part_gives k t) (arm_gives k t) (bind_gives k t) (attr_gives k t) (flwor_gives k t) (order_gives k t)

  pub attr_rolled : (x : DirectAttr-F Clause Expr NameSource Part Arm Bind DirectAttr FlworOf Order) → attr_gives k t (roll-DirectAttr x) ≡ t.of_attr (attr_layer x)
  attr_rolled x = fold-roll-DirectAttr _ _ _ _ _ _ _ _ _ _ _ _ _ _ _ _ _ _ x

  abbrev pub part_layer : Part-F Clause Expr NameSource Part Arm Bind DirectAttr FlworOf Order → PartLayer k
  part_layer = map-Part Clause Expr NameSource Part Arm Bind DirectAttr FlworOf Order
      k.Clauses k.Exprs k.Names k.Parts k.Arms k.Binds k.Attrs k.Flwors k.Orders
      (clause_gives k t) (expr_gives k t) (name_gives k t) (part_gives k t) (arm_gives k t) (bind_gives k t) (attr_gives k t) (flwor_gives k t) (order_gives k t)

  pub part_rolled : (x : Part-F Clause Expr NameSource Part Arm Bind DirectAttr FlworOf Order) → part_gives k t (roll-Part x) ≡ t.of_part (part_layer x)
  part_rolled x = fold-roll-Part _ _ _ _ _ _ _ _ _ _ _ _ _ _ _ _ _ _ x
