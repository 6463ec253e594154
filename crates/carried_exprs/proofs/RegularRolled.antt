-- A form is regular as its parts are.
use Rattle.std.proofs.Common.{◌≡◌}
use Rattle.xt_syntax.specs.declared.exprs.Expr.{Expr}
use Rattle.xt_syntax.specs.declared.exprs.Arm.{Arm}
use Rattle.xt_syntax.specs.declared.exprs.Clause.{Clause}
use Rattle.xt_syntax.specs.declared.exprs.Order.{Order}
use Rattle.xt_syntax.specs.declared.exprs.Flwor.{Flwor as FlworOf}
use Rattle.xt_syntax.specs.declared.exprs.Bind.{Bind}
use Rattle.xt_syntax.specs.declared.exprs.NameSource.{NameSource}
use Rattle.xt_syntax.specs.declared.exprs.DirectAttr.{DirectAttr}
use Rattle.xt_syntax.specs.declared.exprs.Part.{Part}
use Rattle.xt_syntax.specs.declared.exprs.Clause.TheOpen.{Expr-F, Arm-F, Clause-F, Order-F}
use Rattle.xt_syntax.specs.declared.exprs.Clause.TheOpen.{Flwor-F, Bind-F, NameSource-F, DirectAttr-F}
use Rattle.xt_syntax.specs.declared.exprs.Clause.TheOpen.{Part-F}
use Rattle.xt_syntax.specs.declared.exprs.Clause.TheViews.{roll-Expr, roll-Arm, roll-Clause}
use Rattle.xt_syntax.specs.declared.exprs.Clause.TheViews.{roll-Order, roll-Flwor, roll-Bind}
use Rattle.xt_syntax.specs.declared.exprs.Clause.TheViews.{roll-NameSource, roll-DirectAttr, roll-Part}
use Rattle.xt_syntax.specs.declared.exprs.Clause.TheFolds.{fold-roll-Expr, fold-roll-Arm}
use Rattle.xt_syntax.specs.declared.exprs.Clause.TheFolds.{fold-roll-Clause, fold-roll-Order}
use Rattle.xt_syntax.specs.declared.exprs.Clause.TheFolds.{fold-roll-Flwor, fold-roll-Bind}
use Rattle.xt_syntax.specs.declared.exprs.Clause.TheFolds.{fold-roll-NameSource, fold-roll-Part}
use Rattle.xt_syntax.specs.declared.exprs.Clause.TheFolds.{fold-roll-DirectAttr}
use Rattle.xt_syntax.specs.declared.exprs.Clause.TheFolds.{map-Expr, map-Arm, map-Clause, map-Order}
use Rattle.xt_syntax.specs.declared.exprs.Clause.TheFolds.{map-Flwor, map-Bind, map-NameSource}
use Rattle.xt_syntax.specs.declared.exprs.Clause.TheFolds.{map-DirectAttr, map-Part}
use Rattle.xt_syntax.specs.Layers.{clause_gives, name_gives, part_gives, arm_gives}
use Rattle.xt_syntax.specs.Layers.{bind_gives, attr_gives, flwor_gives, order_gives, expr_gives}
use Rattle.xt_forms.specs.Regular.{regulars, regular_steps}

abbrev pub regular_expr_value : Expr-F Clause Expr NameSource Part Arm Bind DirectAttr FlworOf Order → regulars.Exprs
regular_expr_value x = regular_steps.of_expr
    (map-Expr Clause Expr NameSource Part Arm Bind DirectAttr FlworOf Order
    regulars.Clauses regulars.Exprs regulars.Names regulars.Parts regulars.Arms regulars.Binds regulars.Attrs regulars.Flwors regulars.Orders
    (clause_gives regulars regular_steps) (expr_gives regulars regular_steps) (name_gives regulars regular_steps) (part_gives regulars regular_steps) (arm_gives regulars regular_steps) (bind_gives regulars regular_steps) (attr_gives regulars regular_steps) (flwor_gives regulars regular_steps) (order_gives regulars regular_steps) x)

pub regular_expr_rolled : (x : Expr-F Clause Expr NameSource Part Arm Bind DirectAttr FlworOf Order) →
    expr_gives regulars regular_steps (roll-Expr x) ≡ regular_expr_value x
regular_expr_rolled x = fold-roll-Expr _ _ _ _ _ _ _ _ _ _ _ _ _ _ _ _ _ _ x

abbrev pub regular_arm_value : Arm-F Clause Expr NameSource Part Arm Bind DirectAttr FlworOf Order → regulars.Arms
regular_arm_value x = regular_steps.of_arm
    (map-Arm Clause Expr NameSource Part Arm Bind DirectAttr FlworOf Order
    regulars.Clauses regulars.Exprs regulars.Names regulars.Parts regulars.Arms regulars.Binds regulars.Attrs regulars.Flwors regulars.Orders
    (clause_gives regulars regular_steps) (expr_gives regulars regular_steps) (name_gives regulars regular_steps) (part_gives regulars regular_steps) (arm_gives regulars regular_steps) (bind_gives regulars regular_steps) (attr_gives regulars regular_steps) (flwor_gives regulars regular_steps) (order_gives regulars regular_steps) x)

pub regular_arm_rolled : (x : Arm-F Clause Expr NameSource Part Arm Bind DirectAttr FlworOf Order) →
    arm_gives regulars regular_steps (roll-Arm x) ≡ regular_arm_value x
regular_arm_rolled x = fold-roll-Arm _ _ _ _ _ _ _ _ _ _ _ _ _ _ _ _ _ _ x

abbrev pub regular_bind_value : Bind-F Clause Expr NameSource Part Arm Bind DirectAttr FlworOf Order → regulars.Binds
regular_bind_value x = regular_steps.of_bind
    (map-Bind Clause Expr NameSource Part Arm Bind DirectAttr FlworOf Order
    regulars.Clauses regulars.Exprs regulars.Names regulars.Parts regulars.Arms regulars.Binds regulars.Attrs regulars.Flwors regulars.Orders
    (clause_gives regulars regular_steps) (expr_gives regulars regular_steps) (name_gives regulars regular_steps) (part_gives regulars regular_steps) (arm_gives regulars regular_steps) (bind_gives regulars regular_steps) (attr_gives regulars regular_steps) (flwor_gives regulars regular_steps) (order_gives regulars regular_steps) x)

pub regular_bind_rolled : (x : Bind-F Clause Expr NameSource Part Arm Bind DirectAttr FlworOf Order) →
    bind_gives regulars regular_steps (roll-Bind x) ≡ regular_bind_value x
regular_bind_rolled x = fold-roll-Bind _ _ _ _ _ _ _ _ _ _ _ _ _ _ _ _ _ _ x

abbrev pub regular_order_value : Order-F Clause Expr NameSource Part Arm Bind DirectAttr FlworOf Order → regulars.Orders
regular_order_value x = regular_steps.of_order
    (map-Order Clause Expr NameSource Part Arm Bind DirectAttr FlworOf Order
    regulars.Clauses regulars.Exprs regulars.Names regulars.Parts regulars.Arms regulars.Binds regulars.Attrs regulars.Flwors regulars.Orders
    (clause_gives regulars regular_steps) (expr_gives regulars regular_steps) (name_gives regulars regular_steps) (part_gives regulars regular_steps) (arm_gives regulars regular_steps) (bind_gives regulars regular_steps) (attr_gives regulars regular_steps) (flwor_gives regulars regular_steps) (order_gives regulars regular_steps) x)

pub regular_order_rolled : (x : Order-F Clause Expr NameSource Part Arm Bind DirectAttr FlworOf Order) →
    order_gives regulars regular_steps (roll-Order x) ≡ regular_order_value x
regular_order_rolled x = fold-roll-Order _ _ _ _ _ _ _ _ _ _ _ _ _ _ _ _ _ _ x

abbrev pub regular_flwor_value : Flwor-F Clause Expr NameSource Part Arm Bind DirectAttr FlworOf Order → regulars.Flwors
regular_flwor_value x = regular_steps.of_flwor
    (map-Flwor Clause Expr NameSource Part Arm Bind DirectAttr FlworOf Order
    regulars.Clauses regulars.Exprs regulars.Names regulars.Parts regulars.Arms regulars.Binds regulars.Attrs regulars.Flwors regulars.Orders
    (clause_gives regulars regular_steps) (expr_gives regulars regular_steps) (name_gives regulars regular_steps) (part_gives regulars regular_steps) (arm_gives regulars regular_steps) (bind_gives regulars regular_steps) (attr_gives regulars regular_steps) (flwor_gives regulars regular_steps) (order_gives regulars regular_steps) x)

pub regular_flwor_rolled : (x : Flwor-F Clause Expr NameSource Part Arm Bind DirectAttr FlworOf Order) →
    flwor_gives regulars regular_steps (roll-Flwor x) ≡ regular_flwor_value x
regular_flwor_rolled x = fold-roll-Flwor _ _ _ _ _ _ _ _ _ _ _ _ _ _ _ _ _ _ x

abbrev pub regular_clause_value : Clause-F Clause Expr NameSource Part Arm Bind DirectAttr FlworOf Order → regulars.Clauses
regular_clause_value x = regular_steps.of_clause
    (map-Clause Clause Expr NameSource Part Arm Bind DirectAttr FlworOf Order
    regulars.Clauses regulars.Exprs regulars.Names regulars.Parts regulars.Arms regulars.Binds regulars.Attrs regulars.Flwors regulars.Orders
    (clause_gives regulars regular_steps) (expr_gives regulars regular_steps) (name_gives regulars regular_steps) (part_gives regulars regular_steps) (arm_gives regulars regular_steps) (bind_gives regulars regular_steps) (attr_gives regulars regular_steps) (flwor_gives regulars regular_steps) (order_gives regulars regular_steps) x)

pub regular_clause_rolled : (x : Clause-F Clause Expr NameSource Part Arm Bind DirectAttr FlworOf Order) →
    clause_gives regulars regular_steps (roll-Clause x) ≡ regular_clause_value x
regular_clause_rolled x = fold-roll-Clause _ _ _ _ _ _ _ _ _ _ _ _ _ _ _ _ _ _ x

abbrev pub regular_name_value : NameSource-F Clause Expr NameSource Part Arm Bind DirectAttr FlworOf Order → regulars.Names
regular_name_value x = regular_steps.of_name
    (map-NameSource Clause Expr NameSource Part Arm Bind DirectAttr FlworOf Order
    regulars.Clauses regulars.Exprs regulars.Names regulars.Parts regulars.Arms regulars.Binds regulars.Attrs regulars.Flwors regulars.Orders
    (clause_gives regulars regular_steps) (expr_gives regulars regular_steps) (name_gives regulars regular_steps) (part_gives regulars regular_steps) (arm_gives regulars regular_steps) (bind_gives regulars regular_steps) (attr_gives regulars regular_steps) (flwor_gives regulars regular_steps) (order_gives regulars regular_steps) x)

pub regular_name_rolled : (x : NameSource-F Clause Expr NameSource Part Arm Bind DirectAttr FlworOf Order) →
    name_gives regulars regular_steps (roll-NameSource x) ≡ regular_name_value x
regular_name_rolled x = fold-roll-NameSource _ _ _ _ _ _ _ _ _ _ _ _ _ _ _ _ _ _ x

abbrev pub regular_part_value : Part-F Clause Expr NameSource Part Arm Bind DirectAttr FlworOf Order → regulars.Parts
regular_part_value x = regular_steps.of_part
    (map-Part Clause Expr NameSource Part Arm Bind DirectAttr FlworOf Order
    regulars.Clauses regulars.Exprs regulars.Names regulars.Parts regulars.Arms regulars.Binds regulars.Attrs regulars.Flwors regulars.Orders
    (clause_gives regulars regular_steps) (expr_gives regulars regular_steps) (name_gives regulars regular_steps) (part_gives regulars regular_steps) (arm_gives regulars regular_steps) (bind_gives regulars regular_steps) (attr_gives regulars regular_steps) (flwor_gives regulars regular_steps) (order_gives regulars regular_steps) x)

pub regular_part_rolled : (x : Part-F Clause Expr NameSource Part Arm Bind DirectAttr FlworOf Order) →
    part_gives regulars regular_steps (roll-Part x) ≡ regular_part_value x
regular_part_rolled x = fold-roll-Part _ _ _ _ _ _ _ _ _ _ _ _ _ _ _ _ _ _ x

abbrev pub regular_attr_value : DirectAttr-F Clause Expr NameSource Part Arm Bind DirectAttr FlworOf Order → regulars.Attrs
regular_attr_value x = regular_steps.of_attr
    (map-DirectAttr Clause Expr NameSource Part Arm Bind DirectAttr FlworOf Order
    regulars.Clauses regulars.Exprs regulars.Names regulars.Parts regulars.Arms regulars.Binds regulars.Attrs regulars.Flwors regulars.Orders
    (clause_gives regulars regular_steps) (expr_gives regulars regular_steps) (name_gives regulars regular_steps) (part_gives regulars regular_steps) (arm_gives regulars regular_steps) (bind_gives regulars regular_steps) (attr_gives regulars regular_steps) (flwor_gives regulars regular_steps) (order_gives regulars regular_steps) x)

pub regular_attr_rolled : (x : DirectAttr-F Clause Expr NameSource Part Arm Bind DirectAttr FlworOf Order) →
    attr_gives regulars regular_steps (roll-DirectAttr x) ≡ regular_attr_value x
regular_attr_rolled x = fold-roll-DirectAttr _ _ _ _ _ _ _ _ _ _ _ _ _ _ _ _ _ _ x
