-- A form is carried as its parts are.
use Rattle.std.proofs.Common.{◌≡◌}
use Rattle.xt_syntax.specs.declared.exprs.Expr.{Expr}
use Rattle.xt_syntax.specs.declared.exprs.Arm.{Arm}
use Rattle.xt_syntax.specs.declared.exprs.Clause.{Clause}
use Rattle.xt_syntax.specs.declared.exprs.Order.{Order}
use Rattle.xt_syntax.specs.declared.exprs.Flwor.{Flwor as FlworOf}
use Rattle.xt_syntax.specs.declared.exprs.Bind.{Bind}
use Rattle.xt_syntax.specs.declared.exprs.NameSource.{NameSource}
use Rattle.xt_syntax.specs.declared.exprs.DirectAttr.{DirectAttr}
use Rattle.xt_syntax.specs.declared.exprs.Part.{Part}
use Rattle.xt_syntax.specs.declared.exprs.Clause.TheOpen.{Expr-F, Arm-F, Clause-F, Order-F}
use Rattle.xt_syntax.specs.declared.exprs.Clause.TheOpen.{Flwor-F, Bind-F, NameSource-F, DirectAttr-F}
use Rattle.xt_syntax.specs.declared.exprs.Clause.TheOpen.{Part-F}
use Rattle.xt_syntax.specs.declared.exprs.Clause.TheViews.{roll-Expr, roll-Arm, roll-Clause}
use Rattle.xt_syntax.specs.declared.exprs.Clause.TheViews.{roll-Order, roll-Flwor, roll-Bind}
use Rattle.xt_syntax.specs.declared.exprs.Clause.TheViews.{roll-NameSource, roll-DirectAttr, roll-Part}
use Rattle.xt_syntax.specs.declared.exprs.Clause.TheFolds.{fold-roll-Expr, fold-roll-Arm}
use Rattle.xt_syntax.specs.declared.exprs.Clause.TheFolds.{fold-roll-Clause, fold-roll-Order}
use Rattle.xt_syntax.specs.declared.exprs.Clause.TheFolds.{fold-roll-Flwor, fold-roll-Bind}
use Rattle.xt_syntax.specs.declared.exprs.Clause.TheFolds.{fold-roll-NameSource, fold-roll-Part}
use Rattle.xt_syntax.specs.declared.exprs.Clause.TheFolds.{fold-roll-DirectAttr}
use Rattle.xt_syntax.specs.declared.exprs.Clause.TheFolds.{map-Expr, map-Arm, map-Clause, map-Order}
use Rattle.xt_syntax.specs.declared.exprs.Clause.TheFolds.{map-Flwor, map-Bind, map-NameSource}
use Rattle.xt_syntax.specs.declared.exprs.Clause.TheFolds.{map-DirectAttr, map-Part}
use Rattle.xt_syntax.specs.Layers.{clause_gives, name_gives, part_gives, arm_gives}
use Rattle.xt_syntax.specs.Layers.{bind_gives, attr_gives, flwor_gives, order_gives, expr_gives}
use Rattle.carried_exprs.specs.Sights.{Setting}
use Rattle.carried_exprs.specs.Carried.{seen, seen_steps}

abbrev pub seen_expr_value : Setting → Expr-F Clause Expr NameSource Part Arm Bind DirectAttr FlworOf Order → seen.Exprs
seen_expr_value w x = (seen_steps w).of_expr
    (map-Expr Clause Expr NameSource Part Arm Bind DirectAttr FlworOf Order
    seen.Clauses seen.Exprs seen.Names seen.Parts seen.Arms seen.Binds seen.Attrs seen.Flwors seen.Orders
    (clause_gives seen (seen_steps w)) (expr_gives seen (seen_steps w)) (name_gives seen (seen_steps w)) (part_gives seen (seen_steps w)) (arm_gives seen (seen_steps w)) (bind_gives seen (seen_steps w)) (attr_gives seen (seen_steps w)) (flwor_gives seen (seen_steps w)) (order_gives seen (seen_steps w)) x)

pub seen_expr_rolled : (w : Setting) (x : Expr-F Clause Expr NameSource Part Arm Bind DirectAttr FlworOf Order) →
    expr_gives seen (seen_steps w) (roll-Expr x) ≡ seen_expr_value w x
seen_expr_rolled w x = fold-roll-Expr _ _ _ _ _ _ _ _ _ _ _ _ _ _ _ _ _ _ x

abbrev pub seen_arm_value : Setting → Arm-F Clause Expr NameSource Part Arm Bind DirectAttr FlworOf Order → seen.Arms
seen_arm_value w x = (seen_steps w).of_arm
    (map-Arm Clause Expr NameSource Part Arm Bind DirectAttr FlworOf Order
    seen.Clauses seen.Exprs seen.Names seen.Parts seen.Arms seen.Binds seen.Attrs seen.Flwors seen.Orders
    (clause_gives seen (seen_steps w)) (expr_gives seen (seen_steps w)) (name_gives seen (seen_steps w)) (part_gives seen (seen_steps w)) (arm_gives seen (seen_steps w)) (bind_gives seen (seen_steps w)) (attr_gives seen (seen_steps w)) (flwor_gives seen (seen_steps w)) (order_gives seen (seen_steps w)) x)

pub seen_arm_rolled : (w : Setting) (x : Arm-F Clause Expr NameSource Part Arm Bind DirectAttr FlworOf Order) →
    arm_gives seen (seen_steps w) (roll-Arm x) ≡ seen_arm_value w x
seen_arm_rolled w x = fold-roll-Arm _ _ _ _ _ _ _ _ _ _ _ _ _ _ _ _ _ _ x

abbrev pub seen_bind_value : Setting → Bind-F Clause Expr NameSource Part Arm Bind DirectAttr FlworOf Order → seen.Binds
seen_bind_value w x = (seen_steps w).of_bind
    (map-Bind Clause Expr NameSource Part Arm Bind DirectAttr FlworOf Order
    seen.Clauses seen.Exprs seen.Names seen.Parts seen.Arms seen.Binds seen.Attrs seen.Flwors seen.Orders
    (clause_gives seen (seen_steps w)) (expr_gives seen (seen_steps w)) (name_gives seen (seen_steps w)) (part_gives seen (seen_steps w)) (arm_gives seen (seen_steps w)) (bind_gives seen (seen_steps w)) (attr_gives seen (seen_steps w)) (flwor_gives seen (seen_steps w)) (order_gives seen (seen_steps w)) x)

pub seen_bind_rolled : (w : Setting) (x : Bind-F Clause Expr NameSource Part Arm Bind DirectAttr FlworOf Order) →
    bind_gives seen (seen_steps w) (roll-Bind x) ≡ seen_bind_value w x
seen_bind_rolled w x = fold-roll-Bind _ _ _ _ _ _ _ _ _ _ _ _ _ _ _ _ _ _ x

abbrev pub seen_order_value : Setting → Order-F Clause Expr NameSource Part Arm Bind DirectAttr FlworOf Order → seen.Orders
seen_order_value w x = (seen_steps w).of_order
    (map-Order Clause Expr NameSource Part Arm Bind DirectAttr FlworOf Order
    seen.Clauses seen.Exprs seen.Names seen.Parts seen.Arms seen.Binds seen.Attrs seen.Flwors seen.Orders
    (clause_gives seen (seen_steps w)) (expr_gives seen (seen_steps w)) (name_gives seen (seen_steps w)) (part_gives seen (seen_steps w)) (arm_gives seen (seen_steps w)) (bind_gives seen (seen_steps w)) (attr_gives seen (seen_steps w)) (flwor_gives seen (seen_steps w)) (order_gives seen (seen_steps w)) x)

pub seen_order_rolled : (w : Setting) (x : Order-F Clause Expr NameSource Part Arm Bind DirectAttr FlworOf Order) →
    order_gives seen (seen_steps w) (roll-Order x) ≡ seen_order_value w x
seen_order_rolled w x = fold-roll-Order _ _ _ _ _ _ _ _ _ _ _ _ _ _ _ _ _ _ x

abbrev pub seen_flwor_value : Setting → Flwor-F Clause Expr NameSource Part Arm Bind DirectAttr FlworOf Order → seen.Flwors
seen_flwor_value w x = (seen_steps w).of_flwor
    (map-Flwor Clause Expr NameSource Part Arm Bind DirectAttr FlworOf Order
    seen.Clauses seen.Exprs seen.Names seen.Parts seen.Arms seen.Binds seen.Attrs seen.Flwors seen.Orders
    (clause_gives seen (seen_steps w)) (expr_gives seen (seen_steps w)) (name_gives seen (seen_steps w)) (part_gives seen (seen_steps w)) (arm_gives seen (seen_steps w)) (bind_gives seen (seen_steps w)) (attr_gives seen (seen_steps w)) (flwor_gives seen (seen_steps w)) (order_gives seen (seen_steps w)) x)

pub seen_flwor_rolled : (w : Setting) (x : Flwor-F Clause Expr NameSource Part Arm Bind DirectAttr FlworOf Order) →
    flwor_gives seen (seen_steps w) (roll-Flwor x) ≡ seen_flwor_value w x
seen_flwor_rolled w x = fold-roll-Flwor _ _ _ _ _ _ _ _ _ _ _ _ _ _ _ _ _ _ x

abbrev pub seen_clause_value : Setting → Clause-F Clause Expr NameSource Part Arm Bind DirectAttr FlworOf Order → seen.Clauses
seen_clause_value w x = (seen_steps w).of_clause
    (map-Clause Clause Expr NameSource Part Arm Bind DirectAttr FlworOf Order
    seen.Clauses seen.Exprs seen.Names seen.Parts seen.Arms seen.Binds seen.Attrs seen.Flwors seen.Orders
    (clause_gives seen (seen_steps w)) (expr_gives seen (seen_steps w)) (name_gives seen (seen_steps w)) (part_gives seen (seen_steps w)) (arm_gives seen (seen_steps w)) (bind_gives seen (seen_steps w)) (attr_gives seen (seen_steps w)) (flwor_gives seen (seen_steps w)) (order_gives seen (seen_steps w)) x)

pub seen_clause_rolled : (w : Setting) (x : Clause-F Clause Expr NameSource Part Arm Bind DirectAttr FlworOf Order) →
    clause_gives seen (seen_steps w) (roll-Clause x) ≡ seen_clause_value w x
seen_clause_rolled w x = fold-roll-Clause _ _ _ _ _ _ _ _ _ _ _ _ _ _ _ _ _ _ x

abbrev pub seen_name_value : Setting → NameSource-F Clause Expr NameSource Part Arm Bind DirectAttr FlworOf Order → seen.Names
seen_name_value w x = (seen_steps w).of_name
    (map-NameSource Clause Expr NameSource Part Arm Bind DirectAttr FlworOf Order
    seen.Clauses seen.Exprs seen.Names seen.Parts seen.Arms seen.Binds seen.Attrs seen.Flwors seen.Orders
    (clause_gives seen (seen_steps w)) (expr_gives seen (seen_steps w)) (name_gives seen (seen_steps w)) (part_gives seen (seen_steps w)) (arm_gives seen (seen_steps w)) (bind_gives seen (seen_steps w)) (attr_gives seen (seen_steps w)) (flwor_gives seen (seen_steps w)) (order_gives seen (seen_steps w)) x)

pub seen_name_rolled : (w : Setting) (x : NameSource-F Clause Expr NameSource Part Arm Bind DirectAttr FlworOf Order) →
    name_gives seen (seen_steps w) (roll-NameSource x) ≡ seen_name_value w x
seen_name_rolled w x = fold-roll-NameSource _ _ _ _ _ _ _ _ _ _ _ _ _ _ _ _ _ _ x

abbrev pub seen_part_value : Setting → Part-F Clause Expr NameSource Part Arm Bind DirectAttr FlworOf Order → seen.Parts
seen_part_value w x = (seen_steps w).of_part
    (map-Part Clause Expr NameSource Part Arm Bind DirectAttr FlworOf Order
    seen.Clauses seen.Exprs seen.Names seen.Parts seen.Arms seen.Binds seen.Attrs seen.Flwors seen.Orders
    (clause_gives seen (seen_steps w)) (expr_gives seen (seen_steps w)) (name_gives seen (seen_steps w)) (part_gives seen (seen_steps w)) (arm_gives seen (seen_steps w)) (bind_gives seen (seen_steps w)) (attr_gives seen (seen_steps w)) (flwor_gives seen (seen_steps w)) (order_gives seen (seen_steps w)) x)

pub seen_part_rolled : (w : Setting) (x : Part-F Clause Expr NameSource Part Arm Bind DirectAttr FlworOf Order) →
    part_gives seen (seen_steps w) (roll-Part x) ≡ seen_part_value w x
seen_part_rolled w x = fold-roll-Part _ _ _ _ _ _ _ _ _ _ _ _ _ _ _ _ _ _ x

abbrev pub seen_attr_value : Setting → DirectAttr-F Clause Expr NameSource Part Arm Bind DirectAttr FlworOf Order → seen.Attrs
seen_attr_value w x = (seen_steps w).of_attr
    (map-DirectAttr Clause Expr NameSource Part Arm Bind DirectAttr FlworOf Order
    seen.Clauses seen.Exprs seen.Names seen.Parts seen.Arms seen.Binds seen.Attrs seen.Flwors seen.Orders
    (clause_gives seen (seen_steps w)) (expr_gives seen (seen_steps w)) (name_gives seen (seen_steps w)) (part_gives seen (seen_steps w)) (arm_gives seen (seen_steps w)) (bind_gives seen (seen_steps w)) (attr_gives seen (seen_steps w)) (flwor_gives seen (seen_steps w)) (order_gives seen (seen_steps w)) x)

pub seen_attr_rolled : (w : Setting) (x : DirectAttr-F Clause Expr NameSource Part Arm Bind DirectAttr FlworOf Order) →
    attr_gives seen (seen_steps w) (roll-DirectAttr x) ≡ seen_attr_value w x
seen_attr_rolled w x = fold-roll-DirectAttr _ _ _ _ _ _ _ _ _ _ _ _ _ _ _ _ _ _ x
