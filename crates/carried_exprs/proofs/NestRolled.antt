-- A form nests as its parts do.
use Rattle.std.proofs.Common.{◌≡◌}
use Rattle.xt_syntax.specs.declared.exprs.Expr.{Expr}
use Rattle.xt_syntax.specs.declared.exprs.Arm.{Arm}
use Rattle.xt_syntax.specs.declared.exprs.Clause.{Clause}
use Rattle.xt_syntax.specs.declared.exprs.Order.{Order}
use Rattle.xt_syntax.specs.declared.exprs.Flwor.{Flwor as FlworOf}
use Rattle.xt_syntax.specs.declared.exprs.Bind.{Bind}
use Rattle.xt_syntax.specs.declared.exprs.NameSource.{NameSource}
use Rattle.xt_syntax.specs.declared.exprs.DirectAttr.{DirectAttr}
use Rattle.xt_syntax.specs.declared.exprs.Part.{Part}
use Rattle.xt_syntax.specs.declared.exprs.Clause.TheOpen.{Expr-F, Arm-F, Clause-F, Order-F}
use Rattle.xt_syntax.specs.declared.exprs.Clause.TheOpen.{Flwor-F, Bind-F, NameSource-F, DirectAttr-F}
use Rattle.xt_syntax.specs.declared.exprs.Clause.TheOpen.{Part-F}
use Rattle.xt_syntax.specs.declared.exprs.Clause.TheViews.{roll-Expr, roll-Arm, roll-Clause}
use Rattle.xt_syntax.specs.declared.exprs.Clause.TheViews.{roll-Order, roll-Flwor, roll-Bind}
use Rattle.xt_syntax.specs.declared.exprs.Clause.TheViews.{roll-NameSource, roll-DirectAttr, roll-Part}
use Rattle.xt_syntax.specs.declared.exprs.Clause.TheFolds.{fold-roll-Expr, fold-roll-Arm}
use Rattle.xt_syntax.specs.declared.exprs.Clause.TheFolds.{fold-roll-Clause, fold-roll-Order}
use Rattle.xt_syntax.specs.declared.exprs.Clause.TheFolds.{fold-roll-Flwor, fold-roll-Bind}
use Rattle.xt_syntax.specs.declared.exprs.Clause.TheFolds.{fold-roll-NameSource, fold-roll-Part}
use Rattle.xt_syntax.specs.declared.exprs.Clause.TheFolds.{fold-roll-DirectAttr}
use Rattle.xt_syntax.specs.declared.exprs.Clause.TheFolds.{map-Expr, map-Arm, map-Clause, map-Order}
use Rattle.xt_syntax.specs.declared.exprs.Clause.TheFolds.{map-Flwor, map-Bind, map-NameSource}
use Rattle.xt_syntax.specs.declared.exprs.Clause.TheFolds.{map-DirectAttr, map-Part}
use Rattle.xt_syntax.specs.Layers.{clause_gives, name_gives, part_gives, arm_gives}
use Rattle.xt_syntax.specs.Layers.{bind_gives, attr_gives, flwor_gives, order_gives, expr_gives}
use Rattle.xt_forms.specs.Nest.{nests, nest_steps}

abbrev pub nest_expr_value : Expr-F Clause Expr NameSource Part Arm Bind DirectAttr FlworOf Order → nests.Exprs
nest_expr_value x = nest_steps.of_expr
    (map-Expr Clause Expr NameSource Part Arm Bind DirectAttr FlworOf Order
    nests.Clauses nests.Exprs nests.Names nests.Parts nests.Arms nests.Binds nests.Attrs nests.Flwors nests.Orders
    (clause_gives nests nest_steps) (expr_gives nests nest_steps) (name_gives nests nest_steps) (part_gives nests nest_steps) (arm_gives nests nest_steps) (bind_gives nests nest_steps) (attr_gives nests nest_steps) (flwor_gives nests nest_steps) (order_gives nests nest_steps) x)

pub nest_expr_rolled : (x : Expr-F Clause Expr NameSource Part Arm Bind DirectAttr FlworOf Order) →
    expr_gives nests nest_steps (roll-Expr x) ≡ nest_expr_value x
nest_expr_rolled x = fold-roll-Expr _ _ _ _ _ _ _ _ _ _ _ _ _ _ _ _ _ _ x

abbrev pub nest_arm_value : Arm-F Clause Expr NameSource Part Arm Bind DirectAttr FlworOf Order → nests.Arms
nest_arm_value x = nest_steps.of_arm
    (map-Arm Clause Expr NameSource Part Arm Bind DirectAttr FlworOf Order
    nests.Clauses nests.Exprs nests.Names nests.Parts nests.Arms nests.Binds nests.Attrs nests.Flwors nests.Orders
    (clause_gives nests nest_steps) (expr_gives nests nest_steps) (name_gives nests nest_steps) (part_gives nests nest_steps) (arm_gives nests nest_steps) (bind_gives nests nest_steps) (attr_gives nests nest_steps) (flwor_gives nests nest_steps) (order_gives nests nest_steps) x)

pub nest_arm_rolled : (x : Arm-F Clause Expr NameSource Part Arm Bind DirectAttr FlworOf Order) →
    arm_gives nests nest_steps (roll-Arm x) ≡ nest_arm_value x
nest_arm_rolled x = fold-roll-Arm _ _ _ _ _ _ _ _ _ _ _ _ _ _ _ _ _ _ x

abbrev pub nest_bind_value : Bind-F Clause Expr NameSource Part Arm Bind DirectAttr FlworOf Order → nests.Binds
nest_bind_value x = nest_steps.of_bind
    (map-Bind Clause Expr NameSource Part Arm Bind DirectAttr FlworOf Order
    nests.Clauses nests.Exprs nests.Names nests.Parts nests.Arms nests.Binds nests.Attrs nests.Flwors nests.Orders
    (clause_gives nests nest_steps) (expr_gives nests nest_steps) (name_gives nests nest_steps) (part_gives nests nest_steps) (arm_gives nests nest_steps) (bind_gives nests nest_steps) (attr_gives nests nest_steps) (flwor_gives nests nest_steps) (order_gives nests nest_steps) x)

pub nest_bind_rolled : (x : Bind-F Clause Expr NameSource Part Arm Bind DirectAttr FlworOf Order) →
    bind_gives nests nest_steps (roll-Bind x) ≡ nest_bind_value x
nest_bind_rolled x = fold-roll-Bind _ _ _ _ _ _ _ _ _ _ _ _ _ _ _ _ _ _ x

abbrev pub nest_order_value : Order-F Clause Expr NameSource Part Arm Bind DirectAttr FlworOf Order → nests.Orders
nest_order_value x = nest_steps.of_order
    (map-Order Clause Expr NameSource Part Arm Bind DirectAttr FlworOf Order
    nests.Clauses nests.Exprs nests.Names nests.Parts nests.Arms nests.Binds nests.Attrs nests.Flwors nests.Orders
    (clause_gives nests nest_steps) (expr_gives nests nest_steps) (name_gives nests nest_steps) (part_gives nests nest_steps) (arm_gives nests nest_steps) (bind_gives nests nest_steps) (attr_gives nests nest_steps) (flwor_gives nests nest_steps) (order_gives nests nest_steps) x)

pub nest_order_rolled : (x : Order-F Clause Expr NameSource Part Arm Bind DirectAttr FlworOf Order) →
    order_gives nests nest_steps (roll-Order x) ≡ nest_order_value x
nest_order_rolled x = fold-roll-Order _ _ _ _ _ _ _ _ _ _ _ _ _ _ _ _ _ _ x

abbrev pub nest_flwor_value : Flwor-F Clause Expr NameSource Part Arm Bind DirectAttr FlworOf Order → nests.Flwors
nest_flwor_value x = nest_steps.of_flwor
    (map-Flwor Clause Expr NameSource Part Arm Bind DirectAttr FlworOf Order
    nests.Clauses nests.Exprs nests.Names nests.Parts nests.Arms nests.Binds nests.Attrs nests.Flwors nests.Orders
    (clause_gives nests nest_steps) (expr_gives nests nest_steps) (name_gives nests nest_steps) (part_gives nests nest_steps) (arm_gives nests nest_steps) (bind_gives nests nest_steps) (attr_gives nests nest_steps) (flwor_gives nests nest_steps) (order_gives nests nest_steps) x)

pub nest_flwor_rolled : (x : Flwor-F Clause Expr NameSource Part Arm Bind DirectAttr FlworOf Order) →
    flwor_gives nests nest_steps (roll-Flwor x) ≡ nest_flwor_value x
nest_flwor_rolled x = fold-roll-Flwor _ _ _ _ _ _ _ _ _ _ _ _ _ _ _ _ _ _ x

abbrev pub nest_clause_value : Clause-F Clause Expr NameSource Part Arm Bind DirectAttr FlworOf Order → nests.Clauses
nest_clause_value x = nest_steps.of_clause
    (map-Clause Clause Expr NameSource Part Arm Bind DirectAttr FlworOf Order
    nests.Clauses nests.Exprs nests.Names nests.Parts nests.Arms nests.Binds nests.Attrs nests.Flwors nests.Orders
    (clause_gives nests nest_steps) (expr_gives nests nest_steps) (name_gives nests nest_steps) (part_gives nests nest_steps) (arm_gives nests nest_steps) (bind_gives nests nest_steps) (attr_gives nests nest_steps) (flwor_gives nests nest_steps) (order_gives nests nest_steps) x)

pub nest_clause_rolled : (x : Clause-F Clause Expr NameSource Part Arm Bind DirectAttr FlworOf Order) →
    clause_gives nests nest_steps (roll-Clause x) ≡ nest_clause_value x
nest_clause_rolled x = fold-roll-Clause _ _ _ _ _ _ _ _ _ _ _ _ _ _ _ _ _ _ x

abbrev pub nest_name_value : NameSource-F Clause Expr NameSource Part Arm Bind DirectAttr FlworOf Order → nests.Names
nest_name_value x = nest_steps.of_name
    (map-NameSource Clause Expr NameSource Part Arm Bind DirectAttr FlworOf Order
    nests.Clauses nests.Exprs nests.Names nests.Parts nests.Arms nests.Binds nests.Attrs nests.Flwors nests.Orders
    (clause_gives nests nest_steps) (expr_gives nests nest_steps) (name_gives nests nest_steps) (part_gives nests nest_steps) (arm_gives nests nest_steps) (bind_gives nests nest_steps) (attr_gives nests nest_steps) (flwor_gives nests nest_steps) (order_gives nests nest_steps) x)

pub nest_name_rolled : (x : NameSource-F Clause Expr NameSource Part Arm Bind DirectAttr FlworOf Order) →
    name_gives nests nest_steps (roll-NameSource x) ≡ nest_name_value x
nest_name_rolled x = fold-roll-NameSource _ _ _ _ _ _ _ _ _ _ _ _ _ _ _ _ _ _ x

abbrev pub nest_part_value : Part-F Clause Expr NameSource Part Arm Bind DirectAttr FlworOf Order → nests.Parts
nest_part_value x = nest_steps.of_part
    (map-Part Clause Expr NameSource Part Arm Bind DirectAttr FlworOf Order
    nests.Clauses nests.Exprs nests.Names nests.Parts nests.Arms nests.Binds nests.Attrs nests.Flwors nests.Orders
    (clause_gives nests nest_steps) (expr_gives nests nest_steps) (name_gives nests nest_steps) (part_gives nests nest_steps) (arm_gives nests nest_steps) (bind_gives nests nest_steps) (attr_gives nests nest_steps) (flwor_gives nests nest_steps) (order_gives nests nest_steps) x)

pub nest_part_rolled : (x : Part-F Clause Expr NameSource Part Arm Bind DirectAttr FlworOf Order) →
    part_gives nests nest_steps (roll-Part x) ≡ nest_part_value x
nest_part_rolled x = fold-roll-Part _ _ _ _ _ _ _ _ _ _ _ _ _ _ _ _ _ _ x

abbrev pub nest_attr_value : DirectAttr-F Clause Expr NameSource Part Arm Bind DirectAttr FlworOf Order → nests.Attrs
nest_attr_value x = nest_steps.of_attr
    (map-DirectAttr Clause Expr NameSource Part Arm Bind DirectAttr FlworOf Order
    nests.Clauses nests.Exprs nests.Names nests.Parts nests.Arms nests.Binds nests.Attrs nests.Flwors nests.Orders
    (clause_gives nests nest_steps) (expr_gives nests nest_steps) (name_gives nests nest_steps) (part_gives nests nest_steps) (arm_gives nests nest_steps) (bind_gives nests nest_steps) (attr_gives nests nest_steps) (flwor_gives nests nest_steps) (order_gives nests nest_steps) x)

pub nest_attr_rolled : (x : DirectAttr-F Clause Expr NameSource Part Arm Bind DirectAttr FlworOf Order) →
    attr_gives nests nest_steps (roll-DirectAttr x) ≡ nest_attr_value x
nest_attr_rolled x = fold-roll-DirectAttr _ _ _ _ _ _ _ _ _ _ _ _ _ _ _ _ _ _ x
