-- What a recursion over expressions gives is what its step gives over what it gives of the parts.
use Rattle.std.proofs.Common.{◌≡◌}
use Rattle.xt_syntax.specs.declared.exprs.Expr.{Expr}
use Rattle.xt_syntax.specs.declared.exprs.Arm.{Arm}
use Rattle.xt_syntax.specs.declared.exprs.Clause.{Clause}
use Rattle.xt_syntax.specs.declared.exprs.Order.{Order}
use Rattle.xt_syntax.specs.declared.exprs.Flwor.{Flwor as FlworOf}
use Rattle.xt_syntax.specs.declared.exprs.Bind.{Bind}
use Rattle.xt_syntax.specs.declared.exprs.NameSource.{NameSource}
use Rattle.xt_syntax.specs.declared.exprs.DirectAttr.{DirectAttr}
use Rattle.xt_syntax.specs.declared.exprs.Part.{Part}
use Rattle.xt_syntax.specs.declared.exprs.Clause.TheViews.{roll-Expr, roll-Arm, roll-Clause}
use Rattle.xt_syntax.specs.declared.exprs.Clause.TheViews.{roll-Flwor, roll-Bind, roll-NameSource}
use Rattle.xt_syntax.specs.declared.exprs.Clause.TheFolds.{fold-roll-Expr, fold-roll-Arm}
use Rattle.xt_syntax.specs.declared.exprs.Clause.TheFolds.{fold-roll-Clause, fold-roll-Flwor}
use Rattle.xt_syntax.specs.declared.exprs.Clause.TheFolds.{fold-roll-Bind, fold-roll-NameSource}
use Rattle.xt_syntax.specs.declared.exprs.Clause.TheFolds.{map-Expr, map-Arm, map-Clause, map-Flwor}
use Rattle.xt_syntax.specs.declared.exprs.Clause.TheFolds.{map-Bind, map-NameSource}
use Rattle.xt_syntax.specs.Layers.{Kinds, Steps, ExprLayer, ClauseLayer, NameLayer, ArmLayer}
use Rattle.xt_syntax.specs.Layers.{BindLayer, FlworLayer}
use Rattle.xt_syntax.specs.Layers.{clause_gives, name_gives, part_gives, arm_gives}
use Rattle.xt_syntax.specs.Layers.{bind_gives, attr_gives, flwor_gives, order_gives, expr_gives}
use Rattle.expr_laws.proofs.Texts.{ExprForm, ClauseForm, NameForm, ArmForm, BindForm, FlworForm}

module _ (k : Kinds) (s : Steps k) where
  abbrev pub expr_mapped : ExprForm → ExprLayer k
  expr_mapped =
      map-Expr Clause Expr NameSource Part Arm Bind DirectAttr FlworOf Order
      k.Clauses k.Exprs k.Names k.Parts k.Arms k.Binds k.Attrs k.Flwors k.Orders
      (clause_gives k s) (expr_gives k s) (name_gives k s) (part_gives k s)
      (arm_gives k s) (bind_gives k s) (attr_gives k s) (flwor_gives k s) (order_gives k s)

  pub expr_rolled : (x : ExprForm) →
      expr_gives k s (roll-Expr x) ≡ s.of_expr (expr_mapped x)
  expr_rolled x = fold-roll-Expr _ _ _ _ _ _ _ _ _ _ _ _ _ _ _ _ _ _ x

  abbrev pub clause_mapped : ClauseForm → ClauseLayer k
  clause_mapped =
      map-Clause Clause Expr NameSource Part Arm Bind DirectAttr FlworOf Order
      k.Clauses k.Exprs k.Names k.Parts k.Arms k.Binds k.Attrs k.Flwors k.Orders
      (clause_gives k s) (expr_gives k s) (name_gives k s) (part_gives k s)
      (arm_gives k s) (bind_gives k s) (attr_gives k s) (flwor_gives k s) (order_gives k s)

  pub clause_rolled : (x : ClauseForm) →
      clause_gives k s (roll-Clause x) ≡ s.of_clause (clause_mapped x)
  clause_rolled x = fold-roll-Clause _ _ _ _ _ _ _ _ _ _ _ _ _ _ _ _ _ _ x

  abbrev pub name_mapped : NameForm → NameLayer k
  name_mapped =
      map-NameSource Clause Expr NameSource Part Arm Bind DirectAttr FlworOf Order
      k.Clauses k.Exprs k.Names k.Parts k.Arms k.Binds k.Attrs k.Flwors k.Orders
      (clause_gives k s) (expr_gives k s) (name_gives k s) (part_gives k s)
      (arm_gives k s) (bind_gives k s) (attr_gives k s) (flwor_gives k s) (order_gives k s)

  pub name_rolled : (x : NameForm) →
      name_gives k s (roll-NameSource x) ≡ s.of_name (name_mapped x)
  name_rolled x = fold-roll-NameSource _ _ _ _ _ _ _ _ _ _ _ _ _ _ _ _ _ _ x

  abbrev pub arm_mapped : ArmForm → ArmLayer k
  arm_mapped =
      map-Arm Clause Expr NameSource Part Arm Bind DirectAttr FlworOf Order
      k.Clauses k.Exprs k.Names k.Parts k.Arms k.Binds k.Attrs k.Flwors k.Orders
      (clause_gives k s) (expr_gives k s) (name_gives k s) (part_gives k s)
      (arm_gives k s) (bind_gives k s) (attr_gives k s) (flwor_gives k s) (order_gives k s)

  pub arm_rolled : (x : ArmForm) →
      arm_gives k s (roll-Arm x) ≡ s.of_arm (arm_mapped x)
  arm_rolled x = fold-roll-Arm _ _ _ _ _ _ _ _ _ _ _ _ _ _ _ _ _ _ x

  abbrev pub bind_mapped : BindForm → BindLayer k
  bind_mapped =
      map-Bind Clause Expr NameSource Part Arm Bind DirectAttr FlworOf Order
      k.Clauses k.Exprs k.Names k.Parts k.Arms k.Binds k.Attrs k.Flwors k.Orders
      (clause_gives k s) (expr_gives k s) (name_gives k s) (part_gives k s)
      (arm_gives k s) (bind_gives k s) (attr_gives k s) (flwor_gives k s) (order_gives k s)

  pub bind_rolled : (x : BindForm) →
      bind_gives k s (roll-Bind x) ≡ s.of_bind (bind_mapped x)
  bind_rolled x = fold-roll-Bind _ _ _ _ _ _ _ _ _ _ _ _ _ _ _ _ _ _ x

  abbrev pub flwor_mapped : FlworForm → FlworLayer k
  flwor_mapped =
      map-Flwor Clause Expr NameSource Part Arm Bind DirectAttr FlworOf Order
      k.Clauses k.Exprs k.Names k.Parts k.Arms k.Binds k.Attrs k.Flwors k.Orders
      (clause_gives k s) (expr_gives k s) (name_gives k s) (part_gives k s)
      (arm_gives k s) (bind_gives k s) (attr_gives k s) (flwor_gives k s) (order_gives k s)

  pub flwor_rolled : (x : FlworForm) →
      flwor_gives k s (roll-Flwor x) ≡ s.of_flwor (flwor_mapped x)
  flwor_rolled x = fold-roll-Flwor _ _ _ _ _ _ _ _ _ _ _ _ _ _ _ _ _ _ x
