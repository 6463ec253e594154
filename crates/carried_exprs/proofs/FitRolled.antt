-- A form may be carried as its parts may.
use Rattle.std.proofs.Common.{◌≡◌}
use Rattle.xt_syntax.specs.declared.exprs.Expr.{Expr}
use Rattle.xt_syntax.specs.declared.exprs.Arm.{Arm}
use Rattle.xt_syntax.specs.declared.exprs.Clause.{Clause}
use Rattle.xt_syntax.specs.declared.exprs.Order.{Order}
use Rattle.xt_syntax.specs.declared.exprs.Flwor.{Flwor as FlworOf}
use Rattle.xt_syntax.specs.declared.exprs.Bind.{Bind}
use Rattle.xt_syntax.specs.declared.exprs.NameSource.{NameSource}
use Rattle.xt_syntax.specs.declared.exprs.DirectAttr.{DirectAttr}
use Rattle.xt_syntax.specs.declared.exprs.Part.{Part}
use Rattle.xt_syntax.specs.declared.exprs.Clause.TheOpen.{Expr-F, Arm-F, Clause-F, Order-F}
use Rattle.xt_syntax.specs.declared.exprs.Clause.TheOpen.{Flwor-F, Bind-F, NameSource-F, DirectAttr-F}
use Rattle.xt_syntax.specs.declared.exprs.Clause.TheOpen.{Part-F}
use Rattle.xt_syntax.specs.declared.exprs.Clause.TheViews.{roll-Expr, roll-Arm, roll-Clause}
use Rattle.xt_syntax.specs.declared.exprs.Clause.TheViews.{roll-Order, roll-Flwor, roll-Bind}
use Rattle.xt_syntax.specs.declared.exprs.Clause.TheViews.{roll-NameSource, roll-DirectAttr, roll-Part}
use Rattle.xt_syntax.specs.declared.exprs.Clause.TheFolds.{fold-roll-Expr, fold-roll-Arm}
use Rattle.xt_syntax.specs.declared.exprs.Clause.TheFolds.{fold-roll-Clause, fold-roll-Order}
use Rattle.xt_syntax.specs.declared.exprs.Clause.TheFolds.{fold-roll-Flwor, fold-roll-Bind}
use Rattle.xt_syntax.specs.declared.exprs.Clause.TheFolds.{fold-roll-NameSource, fold-roll-Part}
use Rattle.xt_syntax.specs.declared.exprs.Clause.TheFolds.{fold-roll-DirectAttr}
use Rattle.xt_syntax.specs.declared.exprs.Clause.TheFolds.{map-Expr, map-Arm, map-Clause, map-Order}
use Rattle.xt_syntax.specs.declared.exprs.Clause.TheFolds.{map-Flwor, map-Bind, map-NameSource}
use Rattle.xt_syntax.specs.declared.exprs.Clause.TheFolds.{map-DirectAttr, map-Part}
use Rattle.xt_syntax.specs.Layers.{clause_gives, name_gives, part_gives, arm_gives}
use Rattle.xt_syntax.specs.Layers.{bind_gives, attr_gives, flwor_gives, order_gives, expr_gives}
use Rattle.carried_exprs.specs.Sights.{Setting}
use Rattle.carried_exprs.specs.Fits.{fit_kinds, fit_steps}

abbrev pub fit_expr_value : Setting → Expr-F Clause Expr NameSource Part Arm Bind DirectAttr FlworOf Order → fit_kinds.Exprs
fit_expr_value b x = (fit_steps b).of_expr
    (map-Expr Clause Expr NameSource Part Arm Bind DirectAttr FlworOf Order
    fit_kinds.Clauses fit_kinds.Exprs fit_kinds.Names fit_kinds.Parts fit_kinds.Arms fit_kinds.Binds fit_kinds.Attrs fit_kinds.Flwors fit_kinds.Orders
    (clause_gives fit_kinds (fit_steps b)) (expr_gives fit_kinds (fit_steps b)) (name_gives fit_kinds (fit_steps b)) (part_gives fit_kinds (fit_steps b)) (arm_gives fit_kinds (fit_steps b)) (bind_gives fit_kinds (fit_steps b)) (attr_gives fit_kinds (fit_steps b)) (flwor_gives fit_kinds (fit_steps b)) (order_gives fit_kinds (fit_steps b)) x)

pub fit_expr_rolled : (b : Setting) (x : Expr-F Clause Expr NameSource Part Arm Bind DirectAttr FlworOf Order) →
    expr_gives fit_kinds (fit_steps b) (roll-Expr x) ≡ fit_expr_value b x
fit_expr_rolled b x = fold-roll-Expr _ _ _ _ _ _ _ _ _ _ _ _ _ _ _ _ _ _ x

abbrev pub fit_arm_value : Setting → Arm-F Clause Expr NameSource Part Arm Bind DirectAttr FlworOf Order → fit_kinds.Arms
fit_arm_value b x = (fit_steps b).of_arm
    (map-Arm Clause Expr NameSource Part Arm Bind DirectAttr FlworOf Order
    fit_kinds.Clauses fit_kinds.Exprs fit_kinds.Names fit_kinds.Parts fit_kinds.Arms fit_kinds.Binds fit_kinds.Attrs fit_kinds.Flwors fit_kinds.Orders
    (clause_gives fit_kinds (fit_steps b)) (expr_gives fit_kinds (fit_steps b)) (name_gives fit_kinds (fit_steps b)) (part_gives fit_kinds (fit_steps b)) (arm_gives fit_kinds (fit_steps b)) (bind_gives fit_kinds (fit_steps b)) (attr_gives fit_kinds (fit_steps b)) (flwor_gives fit_kinds (fit_steps b)) (order_gives fit_kinds (fit_steps b)) x)

pub fit_arm_rolled : (b : Setting) (x : Arm-F Clause Expr NameSource Part Arm Bind DirectAttr FlworOf Order) →
    arm_gives fit_kinds (fit_steps b) (roll-Arm x) ≡ fit_arm_value b x
fit_arm_rolled b x = fold-roll-Arm _ _ _ _ _ _ _ _ _ _ _ _ _ _ _ _ _ _ x

abbrev pub fit_bind_value : Setting → Bind-F Clause Expr NameSource Part Arm Bind DirectAttr FlworOf Order → fit_kinds.Binds
fit_bind_value b x = (fit_steps b).of_bind
    (map-Bind Clause Expr NameSource Part Arm Bind DirectAttr FlworOf Order
    fit_kinds.Clauses fit_kinds.Exprs fit_kinds.Names fit_kinds.Parts fit_kinds.Arms fit_kinds.Binds fit_kinds.Attrs fit_kinds.Flwors fit_kinds.Orders
    (clause_gives fit_kinds (fit_steps b)) (expr_gives fit_kinds (fit_steps b)) (name_gives fit_kinds (fit_steps b)) (part_gives fit_kinds (fit_steps b)) (arm_gives fit_kinds (fit_steps b)) (bind_gives fit_kinds (fit_steps b)) (attr_gives fit_kinds (fit_steps b)) (flwor_gives fit_kinds (fit_steps b)) (order_gives fit_kinds (fit_steps b)) x)

pub fit_bind_rolled : (b : Setting) (x : Bind-F Clause Expr NameSource Part Arm Bind DirectAttr FlworOf Order) →
    bind_gives fit_kinds (fit_steps b) (roll-Bind x) ≡ fit_bind_value b x
fit_bind_rolled b x = fold-roll-Bind _ _ _ _ _ _ _ _ _ _ _ _ _ _ _ _ _ _ x

abbrev pub fit_order_value : Setting → Order-F Clause Expr NameSource Part Arm Bind DirectAttr FlworOf Order → fit_kinds.Orders
fit_order_value b x = (fit_steps b).of_order
    (map-Order Clause Expr NameSource Part Arm Bind DirectAttr FlworOf Order
    fit_kinds.Clauses fit_kinds.Exprs fit_kinds.Names fit_kinds.Parts fit_kinds.Arms fit_kinds.Binds fit_kinds.Attrs fit_kinds.Flwors fit_kinds.Orders
    (clause_gives fit_kinds (fit_steps b)) (expr_gives fit_kinds (fit_steps b)) (name_gives fit_kinds (fit_steps b)) (part_gives fit_kinds (fit_steps b)) (arm_gives fit_kinds (fit_steps b)) (bind_gives fit_kinds (fit_steps b)) (attr_gives fit_kinds (fit_steps b)) (flwor_gives fit_kinds (fit_steps b)) (order_gives fit_kinds (fit_steps b)) x)

pub fit_order_rolled : (b : Setting) (x : Order-F Clause Expr NameSource Part Arm Bind DirectAttr FlworOf Order) →
    order_gives fit_kinds (fit_steps b) (roll-Order x) ≡ fit_order_value b x
fit_order_rolled b x = fold-roll-Order _ _ _ _ _ _ _ _ _ _ _ _ _ _ _ _ _ _ x

abbrev pub fit_flwor_value : Setting → Flwor-F Clause Expr NameSource Part Arm Bind DirectAttr FlworOf Order → fit_kinds.Flwors
fit_flwor_value b x = (fit_steps b).of_flwor
    (map-Flwor Clause Expr NameSource Part Arm Bind DirectAttr FlworOf Order
    fit_kinds.Clauses fit_kinds.Exprs fit_kinds.Names fit_kinds.Parts fit_kinds.Arms fit_kinds.Binds fit_kinds.Attrs fit_kinds.Flwors fit_kinds.Orders
    (clause_gives fit_kinds (fit_steps b)) (expr_gives fit_kinds (fit_steps b)) (name_gives fit_kinds (fit_steps b)) (part_gives fit_kinds (fit_steps b)) (arm_gives fit_kinds (fit_steps b)) (bind_gives fit_kinds (fit_steps b)) (attr_gives fit_kinds (fit_steps b)) (flwor_gives fit_kinds (fit_steps b)) (order_gives fit_kinds (fit_steps b)) x)

pub fit_flwor_rolled : (b : Setting) (x : Flwor-F Clause Expr NameSource Part Arm Bind DirectAttr FlworOf Order) →
    flwor_gives fit_kinds (fit_steps b) (roll-Flwor x) ≡ fit_flwor_value b x
fit_flwor_rolled b x = fold-roll-Flwor _ _ _ _ _ _ _ _ _ _ _ _ _ _ _ _ _ _ x

abbrev pub fit_clause_value : Setting → Clause-F Clause Expr NameSource Part Arm Bind DirectAttr FlworOf Order → fit_kinds.Clauses
fit_clause_value b x = (fit_steps b).of_clause
    (map-Clause Clause Expr NameSource Part Arm Bind DirectAttr FlworOf Order
    fit_kinds.Clauses fit_kinds.Exprs fit_kinds.Names fit_kinds.Parts fit_kinds.Arms fit_kinds.Binds fit_kinds.Attrs fit_kinds.Flwors fit_kinds.Orders
    (clause_gives fit_kinds (fit_steps b)) (expr_gives fit_kinds (fit_steps b)) (name_gives fit_kinds (fit_steps b)) (part_gives fit_kinds (fit_steps b)) (arm_gives fit_kinds (fit_steps b)) (bind_gives fit_kinds (fit_steps b)) (attr_gives fit_kinds (fit_steps b)) (flwor_gives fit_kinds (fit_steps b)) (order_gives fit_kinds (fit_steps b)) x)

pub fit_clause_rolled : (b : Setting) (x : Clause-F Clause Expr NameSource Part Arm Bind DirectAttr FlworOf Order) →
    clause_gives fit_kinds (fit_steps b) (roll-Clause x) ≡ fit_clause_value b x
fit_clause_rolled b x = fold-roll-Clause _ _ _ _ _ _ _ _ _ _ _ _ _ _ _ _ _ _ x

abbrev pub fit_name_value : Setting → NameSource-F Clause Expr NameSource Part Arm Bind DirectAttr FlworOf Order → fit_kinds.Names
fit_name_value b x = (fit_steps b).of_name
    (map-NameSource Clause Expr NameSource Part Arm Bind DirectAttr FlworOf Order
    fit_kinds.Clauses fit_kinds.Exprs fit_kinds.Names fit_kinds.Parts fit_kinds.Arms fit_kinds.Binds fit_kinds.Attrs fit_kinds.Flwors fit_kinds.Orders
    (clause_gives fit_kinds (fit_steps b)) (expr_gives fit_kinds (fit_steps b)) (name_gives fit_kinds (fit_steps b)) (part_gives fit_kinds (fit_steps b)) (arm_gives fit_kinds (fit_steps b)) (bind_gives fit_kinds (fit_steps b)) (attr_gives fit_kinds (fit_steps b)) (flwor_gives fit_kinds (fit_steps b)) (order_gives fit_kinds (fit_steps b)) x)

pub fit_name_rolled : (b : Setting) (x : NameSource-F Clause Expr NameSource Part Arm Bind DirectAttr FlworOf Order) →
    name_gives fit_kinds (fit_steps b) (roll-NameSource x) ≡ fit_name_value b x
fit_name_rolled b x = fold-roll-NameSource _ _ _ _ _ _ _ _ _ _ _ _ _ _ _ _ _ _ x

abbrev pub fit_part_value : Setting → Part-F Clause Expr NameSource Part Arm Bind DirectAttr FlworOf Order → fit_kinds.Parts
fit_part_value b x = (fit_steps b).of_part
    (map-Part Clause Expr NameSource Part Arm Bind DirectAttr FlworOf Order
    fit_kinds.Clauses fit_kinds.Exprs fit_kinds.Names fit_kinds.Parts fit_kinds.Arms fit_kinds.Binds fit_kinds.Attrs fit_kinds.Flwors fit_kinds.Orders
    (clause_gives fit_kinds (fit_steps b)) (expr_gives fit_kinds (fit_steps b)) (name_gives fit_kinds (fit_steps b)) (part_gives fit_kinds (fit_steps b)) (arm_gives fit_kinds (fit_steps b)) (bind_gives fit_kinds (fit_steps b)) (attr_gives fit_kinds (fit_steps b)) (flwor_gives fit_kinds (fit_steps b)) (order_gives fit_kinds (fit_steps b)) x)

pub fit_part_rolled : (b : Setting) (x : Part-F Clause Expr NameSource Part Arm Bind DirectAttr FlworOf Order) →
    part_gives fit_kinds (fit_steps b) (roll-Part x) ≡ fit_part_value b x
fit_part_rolled b x = fold-roll-Part _ _ _ _ _ _ _ _ _ _ _ _ _ _ _ _ _ _ x

abbrev pub fit_attr_value : Setting → DirectAttr-F Clause Expr NameSource Part Arm Bind DirectAttr FlworOf Order → fit_kinds.Attrs
fit_attr_value b x = (fit_steps b).of_attr
    (map-DirectAttr Clause Expr NameSource Part Arm Bind DirectAttr FlworOf Order
    fit_kinds.Clauses fit_kinds.Exprs fit_kinds.Names fit_kinds.Parts fit_kinds.Arms fit_kinds.Binds fit_kinds.Attrs fit_kinds.Flwors fit_kinds.Orders
    (clause_gives fit_kinds (fit_steps b)) (expr_gives fit_kinds (fit_steps b)) (name_gives fit_kinds (fit_steps b)) (part_gives fit_kinds (fit_steps b)) (arm_gives fit_kinds (fit_steps b)) (bind_gives fit_kinds (fit_steps b)) (attr_gives fit_kinds (fit_steps b)) (flwor_gives fit_kinds (fit_steps b)) (order_gives fit_kinds (fit_steps b)) x)

pub fit_attr_rolled : (b : Setting) (x : DirectAttr-F Clause Expr NameSource Part Arm Bind DirectAttr FlworOf Order) →
    attr_gives fit_kinds (fit_steps b) (roll-DirectAttr x) ≡ fit_attr_value b x
fit_attr_rolled b x = fold-roll-DirectAttr _ _ _ _ _ _ _ _ _ _ _ _ _ _ _ _ _ _ x
