-- Whether a form is a leaf is what its parts say.
use Rattle.std.proofs.Common.{◌≡◌}
use Rattle.xt_syntax.specs.declared.exprs.Expr.{Expr}
use Rattle.xt_syntax.specs.declared.exprs.Arm.{Arm}
use Rattle.xt_syntax.specs.declared.exprs.Clause.{Clause}
use Rattle.xt_syntax.specs.declared.exprs.Order.{Order}
use Rattle.xt_syntax.specs.declared.exprs.Flwor.{Flwor as FlworOf}
use Rattle.xt_syntax.specs.declared.exprs.Bind.{Bind}
use Rattle.xt_syntax.specs.declared.exprs.NameSource.{NameSource}
use Rattle.xt_syntax.specs.declared.exprs.DirectAttr.{DirectAttr}
use Rattle.xt_syntax.specs.declared.exprs.Part.{Part}
use Rattle.xt_syntax.specs.declared.exprs.Clause.TheOpen.{Expr-F, Arm-F, Clause-F, Order-F}
use Rattle.xt_syntax.specs.declared.exprs.Clause.TheOpen.{Flwor-F, Bind-F, NameSource-F, DirectAttr-F}
use Rattle.xt_syntax.specs.declared.exprs.Clause.TheOpen.{Part-F}
use Rattle.xt_syntax.specs.declared.exprs.Clause.TheViews.{roll-Expr, roll-Arm, roll-Clause}
use Rattle.xt_syntax.specs.declared.exprs.Clause.TheViews.{roll-Order, roll-Flwor, roll-Bind}
use Rattle.xt_syntax.specs.declared.exprs.Clause.TheViews.{roll-NameSource, roll-DirectAttr, roll-Part}
use Rattle.xt_syntax.specs.declared.exprs.Clause.TheFolds.{fold-roll-Expr, fold-roll-Arm}
use Rattle.xt_syntax.specs.declared.exprs.Clause.TheFolds.{fold-roll-Clause, fold-roll-Order}
use Rattle.xt_syntax.specs.declared.exprs.Clause.TheFolds.{fold-roll-Flwor, fold-roll-Bind}
use Rattle.xt_syntax.specs.declared.exprs.Clause.TheFolds.{fold-roll-NameSource, fold-roll-Part}
use Rattle.xt_syntax.specs.declared.exprs.Clause.TheFolds.{fold-roll-DirectAttr}
use Rattle.xt_syntax.specs.declared.exprs.Clause.TheFolds.{map-Expr, map-Arm, map-Clause, map-Order}
use Rattle.xt_syntax.specs.declared.exprs.Clause.TheFolds.{map-Flwor, map-Bind, map-NameSource}
use Rattle.xt_syntax.specs.declared.exprs.Clause.TheFolds.{map-DirectAttr, map-Part}
use Rattle.xt_syntax.specs.Layers.{clause_gives, name_gives, part_gives, arm_gives}
use Rattle.xt_syntax.specs.Layers.{bind_gives, attr_gives, flwor_gives, order_gives, expr_gives}
use Rattle.way_back.specs.Leaves.{leaves, leaf_steps}

abbrev pub leaf_expr_value : Expr-F Clause Expr NameSource Part Arm Bind DirectAttr FlworOf Order → leaves.Exprs
leaf_expr_value x = leaf_steps.of_expr
    (map-Expr Clause Expr NameSource Part Arm Bind DirectAttr FlworOf Order
    leaves.Clauses leaves.Exprs leaves.Names leaves.Parts leaves.Arms leaves.Binds leaves.Attrs leaves.Flwors leaves.Orders
    (clause_gives leaves leaf_steps) (expr_gives leaves leaf_steps) (name_gives leaves leaf_steps) (part_gives leaves leaf_steps) (arm_gives leaves leaf_steps) (bind_gives leaves leaf_steps) (attr_gives leaves leaf_steps) (flwor_gives leaves leaf_steps) (order_gives leaves leaf_steps) x)

pub leaf_expr_rolled : (x : Expr-F Clause Expr NameSource Part Arm Bind DirectAttr FlworOf Order) →
    expr_gives leaves leaf_steps (roll-Expr x) ≡ leaf_expr_value x
leaf_expr_rolled x = fold-roll-Expr _ _ _ _ _ _ _ _ _ _ _ _ _ _ _ _ _ _ x

abbrev pub leaf_arm_value : Arm-F Clause Expr NameSource Part Arm Bind DirectAttr FlworOf Order → leaves.Arms
leaf_arm_value x = leaf_steps.of_arm
    (map-Arm Clause Expr NameSource Part Arm Bind DirectAttr FlworOf Order
    leaves.Clauses leaves.Exprs leaves.Names leaves.Parts leaves.Arms leaves.Binds leaves.Attrs leaves.Flwors leaves.Orders
    (clause_gives leaves leaf_steps) (expr_gives leaves leaf_steps) (name_gives leaves leaf_steps) (part_gives leaves leaf_steps) (arm_gives leaves leaf_steps) (bind_gives leaves leaf_steps) (attr_gives leaves leaf_steps) (flwor_gives leaves leaf_steps) (order_gives leaves leaf_steps) x)

pub leaf_arm_rolled : (x : Arm-F Clause Expr NameSource Part Arm Bind DirectAttr FlworOf Order) →
    arm_gives leaves leaf_steps (roll-Arm x) ≡ leaf_arm_value x
leaf_arm_rolled x = fold-roll-Arm _ _ _ _ _ _ _ _ _ _ _ _ _ _ _ _ _ _ x

abbrev pub leaf_bind_value : Bind-F Clause Expr NameSource Part Arm Bind DirectAttr FlworOf Order → leaves.Binds
leaf_bind_value x = leaf_steps.of_bind
    (map-Bind Clause Expr NameSource Part Arm Bind DirectAttr FlworOf Order
    leaves.Clauses leaves.Exprs leaves.Names leaves.Parts leaves.Arms leaves.Binds leaves.Attrs leaves.Flwors leaves.Orders
    (clause_gives leaves leaf_steps) (expr_gives leaves leaf_steps) (name_gives leaves leaf_steps) (part_gives leaves leaf_steps) (arm_gives leaves leaf_steps) (bind_gives leaves leaf_steps) (attr_gives leaves leaf_steps) (flwor_gives leaves leaf_steps) (order_gives leaves leaf_steps) x)

pub leaf_bind_rolled : (x : Bind-F Clause Expr NameSource Part Arm Bind DirectAttr FlworOf Order) →
    bind_gives leaves leaf_steps (roll-Bind x) ≡ leaf_bind_value x
leaf_bind_rolled x = fold-roll-Bind _ _ _ _ _ _ _ _ _ _ _ _ _ _ _ _ _ _ x

abbrev pub leaf_order_value : Order-F Clause Expr NameSource Part Arm Bind DirectAttr FlworOf Order → leaves.Orders
leaf_order_value x = leaf_steps.of_order
    (map-Order Clause Expr NameSource Part Arm Bind DirectAttr FlworOf Order
    leaves.Clauses leaves.Exprs leaves.Names leaves.Parts leaves.Arms leaves.Binds leaves.Attrs leaves.Flwors leaves.Orders
    (clause_gives leaves leaf_steps) (expr_gives leaves leaf_steps) (name_gives leaves leaf_steps) (part_gives leaves leaf_steps) (arm_gives leaves leaf_steps) (bind_gives leaves leaf_steps) (attr_gives leaves leaf_steps) (flwor_gives leaves leaf_steps) (order_gives leaves leaf_steps) x)

pub leaf_order_rolled : (x : Order-F Clause Expr NameSource Part Arm Bind DirectAttr FlworOf Order) →
    order_gives leaves leaf_steps (roll-Order x) ≡ leaf_order_value x
leaf_order_rolled x = fold-roll-Order _ _ _ _ _ _ _ _ _ _ _ _ _ _ _ _ _ _ x

abbrev pub leaf_flwor_value : Flwor-F Clause Expr NameSource Part Arm Bind DirectAttr FlworOf Order → leaves.Flwors
leaf_flwor_value x = leaf_steps.of_flwor
    (map-Flwor Clause Expr NameSource Part Arm Bind DirectAttr FlworOf Order
    leaves.Clauses leaves.Exprs leaves.Names leaves.Parts leaves.Arms leaves.Binds leaves.Attrs leaves.Flwors leaves.Orders
    (clause_gives leaves leaf_steps) (expr_gives leaves leaf_steps) (name_gives leaves leaf_steps) (part_gives leaves leaf_steps) (arm_gives leaves leaf_steps) (bind_gives leaves leaf_steps) (attr_gives leaves leaf_steps) (flwor_gives leaves leaf_steps) (order_gives leaves leaf_steps) x)

pub leaf_flwor_rolled : (x : Flwor-F Clause Expr NameSource Part Arm Bind DirectAttr FlworOf Order) →
    flwor_gives leaves leaf_steps (roll-Flwor x) ≡ leaf_flwor_value x
leaf_flwor_rolled x = fold-roll-Flwor _ _ _ _ _ _ _ _ _ _ _ _ _ _ _ _ _ _ x

abbrev pub leaf_clause_value : Clause-F Clause Expr NameSource Part Arm Bind DirectAttr FlworOf Order → leaves.Clauses
leaf_clause_value x = leaf_steps.of_clause
    (map-Clause Clause Expr NameSource Part Arm Bind DirectAttr FlworOf Order
    leaves.Clauses leaves.Exprs leaves.Names leaves.Parts leaves.Arms leaves.Binds leaves.Attrs leaves.Flwors leaves.Orders
    (clause_gives leaves leaf_steps) (expr_gives leaves leaf_steps) (name_gives leaves leaf_steps) (part_gives leaves leaf_steps) (arm_gives leaves leaf_steps) (bind_gives leaves leaf_steps) (attr_gives leaves leaf_steps) (flwor_gives leaves leaf_steps) (order_gives leaves leaf_steps) x)

pub leaf_clause_rolled : (x : Clause-F Clause Expr NameSource Part Arm Bind DirectAttr FlworOf Order) →
    clause_gives leaves leaf_steps (roll-Clause x) ≡ leaf_clause_value x
leaf_clause_rolled x = fold-roll-Clause _ _ _ _ _ _ _ _ _ _ _ _ _ _ _ _ _ _ x

abbrev pub leaf_name_value : NameSource-F Clause Expr NameSource Part Arm Bind DirectAttr FlworOf Order → leaves.Names
leaf_name_value x = leaf_steps.of_name
    (map-NameSource Clause Expr NameSource Part Arm Bind DirectAttr FlworOf Order
    leaves.Clauses leaves.Exprs leaves.Names leaves.Parts leaves.Arms leaves.Binds leaves.Attrs leaves.Flwors leaves.Orders
    (clause_gives leaves leaf_steps) (expr_gives leaves leaf_steps) (name_gives leaves leaf_steps) (part_gives leaves leaf_steps) (arm_gives leaves leaf_steps) (bind_gives leaves leaf_steps) (attr_gives leaves leaf_steps) (flwor_gives leaves leaf_steps) (order_gives leaves leaf_steps) x)

pub leaf_name_rolled : (x : NameSource-F Clause Expr NameSource Part Arm Bind DirectAttr FlworOf Order) →
    name_gives leaves leaf_steps (roll-NameSource x) ≡ leaf_name_value x
leaf_name_rolled x = fold-roll-NameSource _ _ _ _ _ _ _ _ _ _ _ _ _ _ _ _ _ _ x

abbrev pub leaf_part_value : Part-F Clause Expr NameSource Part Arm Bind DirectAttr FlworOf Order → leaves.Parts
leaf_part_value x = leaf_steps.of_part
    (map-Part Clause Expr NameSource Part Arm Bind DirectAttr FlworOf Order
    leaves.Clauses leaves.Exprs leaves.Names leaves.Parts leaves.Arms leaves.Binds leaves.Attrs leaves.Flwors leaves.Orders
    (clause_gives leaves leaf_steps) (expr_gives leaves leaf_steps) (name_gives leaves leaf_steps) (part_gives leaves leaf_steps) (arm_gives leaves leaf_steps) (bind_gives leaves leaf_steps) (attr_gives leaves leaf_steps) (flwor_gives leaves leaf_steps) (order_gives leaves leaf_steps) x)

pub leaf_part_rolled : (x : Part-F Clause Expr NameSource Part Arm Bind DirectAttr FlworOf Order) →
    part_gives leaves leaf_steps (roll-Part x) ≡ leaf_part_value x
leaf_part_rolled x = fold-roll-Part _ _ _ _ _ _ _ _ _ _ _ _ _ _ _ _ _ _ x

abbrev pub leaf_attr_value : DirectAttr-F Clause Expr NameSource Part Arm Bind DirectAttr FlworOf Order → leaves.Attrs
leaf_attr_value x = leaf_steps.of_attr
    (map-DirectAttr Clause Expr NameSource Part Arm Bind DirectAttr FlworOf Order
    leaves.Clauses leaves.Exprs leaves.Names leaves.Parts leaves.Arms leaves.Binds leaves.Attrs leaves.Flwors leaves.Orders
    (clause_gives leaves leaf_steps) (expr_gives leaves leaf_steps) (name_gives leaves leaf_steps) (part_gives leaves leaf_steps) (arm_gives leaves leaf_steps) (bind_gives leaves leaf_steps) (attr_gives leaves leaf_steps) (flwor_gives leaves leaf_steps) (order_gives leaves leaf_steps) x)

pub leaf_attr_rolled : (x : DirectAttr-F Clause Expr NameSource Part Arm Bind DirectAttr FlworOf Order) →
    attr_gives leaves leaf_steps (roll-DirectAttr x) ≡ leaf_attr_value x
leaf_attr_rolled x = fold-roll-DirectAttr _ _ _ _ _ _ _ _ _ _ _ _ _ _ _ _ _ _ x
