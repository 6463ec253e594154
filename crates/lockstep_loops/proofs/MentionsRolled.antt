-- A form mentions what its parts mention.
use Rattle.std.proofs.Common.{◌≡◌}
use Rattle.std.specs.Prelude.{Bool}
use Rattle.xt_syntax.specs.declared.exprs.Expr.{Expr}
use Rattle.xt_syntax.specs.declared.exprs.Arm.{Arm}
use Rattle.xt_syntax.specs.declared.exprs.Clause.{Clause}
use Rattle.xt_syntax.specs.declared.exprs.Order.{Order}
use Rattle.xt_syntax.specs.declared.exprs.Flwor.{Flwor as FlworOf}
use Rattle.xt_syntax.specs.declared.exprs.Bind.{Bind}
use Rattle.xt_syntax.specs.declared.exprs.NameSource.{NameSource}
use Rattle.xt_syntax.specs.declared.exprs.DirectAttr.{DirectAttr}
use Rattle.xt_syntax.specs.declared.exprs.Part.{Part}
use Rattle.xt_syntax.specs.declared.exprs.Clause.TheOpen.{Expr-F, Arm-F, Clause-F, Order-F}
use Rattle.xt_syntax.specs.declared.exprs.Clause.TheOpen.{Flwor-F, Bind-F, NameSource-F, DirectAttr-F}
use Rattle.xt_syntax.specs.declared.exprs.Clause.TheOpen.{Part-F}
use Rattle.xt_syntax.specs.declared.exprs.Clause.TheViews.{roll-Expr, roll-Arm, roll-Clause}
use Rattle.xt_syntax.specs.declared.exprs.Clause.TheViews.{roll-Order, roll-Flwor, roll-Bind}
use Rattle.xt_syntax.specs.declared.exprs.Clause.TheViews.{roll-NameSource, roll-DirectAttr, roll-Part}
use Rattle.xt_syntax.specs.declared.exprs.Clause.TheFolds.{fold-roll-Expr, fold-roll-Arm}
use Rattle.xt_syntax.specs.declared.exprs.Clause.TheFolds.{fold-roll-Clause, fold-roll-Order}
use Rattle.xt_syntax.specs.declared.exprs.Clause.TheFolds.{fold-roll-Flwor, fold-roll-Bind}
use Rattle.xt_syntax.specs.declared.exprs.Clause.TheFolds.{fold-roll-NameSource, fold-roll-Part}
use Rattle.xt_syntax.specs.declared.exprs.Clause.TheFolds.{fold-roll-DirectAttr}
use Rattle.xt_syntax.specs.declared.exprs.Clause.TheFolds.{map-Expr, map-Arm, map-Clause, map-Order}
use Rattle.xt_syntax.specs.declared.exprs.Clause.TheFolds.{map-Flwor, map-Bind, map-NameSource}
use Rattle.xt_syntax.specs.declared.exprs.Clause.TheFolds.{map-DirectAttr, map-Part}
use Rattle.xt_syntax.specs.Layers.{clause_gives, name_gives, part_gives, arm_gives}
use Rattle.xt_syntax.specs.Layers.{bind_gives, attr_gives, flwor_gives, order_gives, expr_gives}
use Rattle.xt_names.specs.declared.names.ExprName.{ExprName}
use Rattle.translated_forms.specs.Mentions.{truths, mention_steps}

abbrev pub expr_mentioned : ExprName → Expr-F Clause Expr NameSource Part Arm Bind DirectAttr FlworOf Order → Bool
expr_mentioned v x = (mention_steps v).of_expr (map-Expr Clause Expr NameSource Part Arm Bind DirectAttr FlworOf Order
    truths.Clauses truths.Exprs truths.Names truths.Parts truths.Arms truths.Binds truths.Attrs truths.Flwors truths.Orders
    (clause_gives truths (mention_steps v)) (expr_gives truths (mention_steps v)) (name_gives truths (mention_steps v)) (part_gives truths (mention_steps v)) (arm_gives truths (mention_steps v)) (bind_gives truths (mention_steps v)) (attr_gives truths (mention_steps v)) (flwor_gives truths (mention_steps v)) (order_gives truths (mention_steps v)) x)

pub expr_rolled : (v : ExprName) (x : Expr-F Clause Expr NameSource Part Arm Bind DirectAttr FlworOf Order) →
    expr_gives truths (mention_steps v) (roll-Expr x) ≡ expr_mentioned v x
expr_rolled v x = fold-roll-Expr _ _ _ _ _ _ _ _ _ _ _ _ _ _ _ _ _ _ x

abbrev pub clause_mentioned : ExprName → Clause-F Clause Expr NameSource Part Arm Bind DirectAttr FlworOf Order → Bool
clause_mentioned v x = (mention_steps v).of_clause (map-Clause Clause Expr NameSource Part Arm Bind DirectAttr FlworOf Order
    truths.Clauses truths.Exprs truths.Names truths.Parts truths.Arms truths.Binds truths.Attrs truths.Flwors truths.Orders
    (clause_gives truths (mention_steps v)) (expr_gives truths (mention_steps v)) (name_gives truths (mention_steps v)) (part_gives truths (mention_steps v)) (arm_gives truths (mention_steps v)) (bind_gives truths (mention_steps v)) (attr_gives truths (mention_steps v)) (flwor_gives truths (mention_steps v)) (order_gives truths (mention_steps v)) x)

pub clause_rolled : (v : ExprName) (x : Clause-F Clause Expr NameSource Part Arm Bind DirectAttr FlworOf Order) →
    clause_gives truths (mention_steps v) (roll-Clause x) ≡ clause_mentioned v x
clause_rolled v x = fold-roll-Clause _ _ _ _ _ _ _ _ _ _ _ _ _ _ _ _ _ _ x

abbrev pub name_mentioned : ExprName → NameSource-F Clause Expr NameSource Part Arm Bind DirectAttr FlworOf Order → Bool
name_mentioned v x = (mention_steps v).of_name (map-NameSource Clause Expr NameSource Part Arm Bind DirectAttr FlworOf Order
    truths.Clauses truths.Exprs truths.Names truths.Parts truths.Arms truths.Binds truths.Attrs truths.Flwors truths.Orders
    (clause_gives truths (mention_steps v)) (expr_gives truths (mention_steps v)) (name_gives truths (mention_steps v)) (part_gives truths (mention_steps v)) (arm_gives truths (mention_steps v)) (bind_gives truths (mention_steps v)) (attr_gives truths (mention_steps v)) (flwor_gives truths (mention_steps v)) (order_gives truths (mention_steps v)) x)

pub name_rolled : (v : ExprName) (x : NameSource-F Clause Expr NameSource Part Arm Bind DirectAttr FlworOf Order) →
    name_gives truths (mention_steps v) (roll-NameSource x) ≡ name_mentioned v x
name_rolled v x = fold-roll-NameSource _ _ _ _ _ _ _ _ _ _ _ _ _ _ _ _ _ _ x

abbrev pub part_mentioned : ExprName → Part-F Clause Expr NameSource Part Arm Bind DirectAttr FlworOf Order → Bool
part_mentioned v x = (mention_steps v).of_part (map-Part Clause Expr NameSource Part Arm Bind DirectAttr FlworOf Order
    truths.Clauses truths.Exprs truths.Names truths.Parts truths.Arms truths.Binds truths.Attrs truths.Flwors truths.Orders
    (clause_gives truths (mention_steps v)) (expr_gives truths (mention_steps v)) (name_gives truths (mention_steps v)) (part_gives truths (mention_steps v)) (arm_gives truths (mention_steps v)) (bind_gives truths (mention_steps v)) (attr_gives truths (mention_steps v)) (flwor_gives truths (mention_steps v)) (order_gives truths (mention_steps v)) x)

pub part_rolled : (v : ExprName) (x : Part-F Clause Expr NameSource Part Arm Bind DirectAttr FlworOf Order) →
    part_gives truths (mention_steps v) (roll-Part x) ≡ part_mentioned v x
part_rolled v x = fold-roll-Part _ _ _ _ _ _ _ _ _ _ _ _ _ _ _ _ _ _ x

abbrev pub arm_mentioned : ExprName → Arm-F Clause Expr NameSource Part Arm Bind DirectAttr FlworOf Order → Bool
arm_mentioned v x = (mention_steps v).of_arm (map-Arm Clause Expr NameSource Part Arm Bind DirectAttr FlworOf Order
    truths.Clauses truths.Exprs truths.Names truths.Parts truths.Arms truths.Binds truths.Attrs truths.Flwors truths.Orders
    (clause_gives truths (mention_steps v)) (expr_gives truths (mention_steps v)) (name_gives truths (mention_steps v)) (part_gives truths (mention_steps v)) (arm_gives truths (mention_steps v)) (bind_gives truths (mention_steps v)) (attr_gives truths (mention_steps v)) (flwor_gives truths (mention_steps v)) (order_gives truths (mention_steps v)) x)

pub arm_rolled : (v : ExprName) (x : Arm-F Clause Expr NameSource Part Arm Bind DirectAttr FlworOf Order) →
    arm_gives truths (mention_steps v) (roll-Arm x) ≡ arm_mentioned v x
arm_rolled v x = fold-roll-Arm _ _ _ _ _ _ _ _ _ _ _ _ _ _ _ _ _ _ x

abbrev pub bind_mentioned : ExprName → Bind-F Clause Expr NameSource Part Arm Bind DirectAttr FlworOf Order → Bool
bind_mentioned v x = (mention_steps v).of_bind (map-Bind Clause Expr NameSource Part Arm Bind DirectAttr FlworOf Order
    truths.Clauses truths.Exprs truths.Names truths.Parts truths.Arms truths.Binds truths.Attrs truths.Flwors truths.Orders
    (clause_gives truths (mention_steps v)) (expr_gives truths (mention_steps v)) (name_gives truths (mention_steps v)) (part_gives truths (mention_steps v)) (arm_gives truths (mention_steps v)) (bind_gives truths (mention_steps v)) (attr_gives truths (mention_steps v)) (flwor_gives truths (mention_steps v)) (order_gives truths (mention_steps v)) x)

pub bind_rolled : (v : ExprName) (x : Bind-F Clause Expr NameSource Part Arm Bind DirectAttr FlworOf Order) →
    bind_gives truths (mention_steps v) (roll-Bind x) ≡ bind_mentioned v x
bind_rolled v x = fold-roll-Bind _ _ _ _ _ _ _ _ _ _ _ _ _ _ _ _ _ _ x

abbrev pub attr_mentioned : ExprName → DirectAttr-F Clause Expr NameSource Part Arm Bind DirectAttr FlworOf Order → Bool
attr_mentioned v x = (mention_steps v).of_attr (map-DirectAttr Clause Expr NameSource Part Arm Bind DirectAttr FlworOf Order
    truths.Clauses truths.Exprs truths.Names truths.Parts truths.Arms truths.Binds truths.Attrs truths.Flwors truths.Orders
    (clause_gives truths (mention_steps v)) (expr_gives truths (mention_steps v)) (name_gives truths (mention_steps v)) (part_gives truths (mention_steps v)) (arm_gives truths (mention_steps v)) (bind_gives truths (mention_steps v)) (attr_gives truths (mention_steps v)) (flwor_gives truths (mention_steps v)) (order_gives truths (mention_steps v)) x)

pub attr_rolled : (v : ExprName) (x : DirectAttr-F Clause Expr NameSource Part Arm Bind DirectAttr FlworOf Order) →
    attr_gives truths (mention_steps v) (roll-DirectAttr x) ≡ attr_mentioned v x
attr_rolled v x = fold-roll-DirectAttr _ _ _ _ _ _ _ _ _ _ _ _ _ _ _ _ _ _ x

abbrev pub flwor_mentioned : ExprName → Flwor-F Clause Expr NameSource Part Arm Bind DirectAttr FlworOf Order → Bool
flwor_mentioned v x = (mention_steps v).of_flwor (map-Flwor Clause Expr NameSource Part Arm Bind DirectAttr FlworOf Order
    truths.Clauses truths.Exprs truths.Names truths.Parts truths.Arms truths.Binds truths.Attrs truths.Flwors truths.Orders
    (clause_gives truths (mention_steps v)) (expr_gives truths (mention_steps v)) (name_gives truths (mention_steps v)) (part_gives truths (mention_steps v)) (arm_gives truths (mention_steps v)) (bind_gives truths (mention_steps v)) (attr_gives truths (mention_steps v)) (flwor_gives truths (mention_steps v)) (order_gives truths (mention_steps v)) x)

pub flwor_rolled : (v : ExprName) (x : Flwor-F Clause Expr NameSource Part Arm Bind DirectAttr FlworOf Order) →
    flwor_gives truths (mention_steps v) (roll-Flwor x) ≡ flwor_mentioned v x
flwor_rolled v x = fold-roll-Flwor _ _ _ _ _ _ _ _ _ _ _ _ _ _ _ _ _ _ x

abbrev pub order_mentioned : ExprName → Order-F Clause Expr NameSource Part Arm Bind DirectAttr FlworOf Order → Bool
order_mentioned v x = (mention_steps v).of_order (map-Order Clause Expr NameSource Part Arm Bind DirectAttr FlworOf Order
    truths.Clauses truths.Exprs truths.Names truths.Parts truths.Arms truths.Binds truths.Attrs truths.Flwors truths.Orders
    (clause_gives truths (mention_steps v)) (expr_gives truths (mention_steps v)) (name_gives truths (mention_steps v)) (part_gives truths (mention_steps v)) (arm_gives truths (mention_steps v)) (bind_gives truths (mention_steps v)) (attr_gives truths (mention_steps v)) (flwor_gives truths (mention_steps v)) (order_gives truths (mention_steps v)) x)

pub order_rolled : (v : ExprName) (x : Order-F Clause Expr NameSource Part Arm Bind DirectAttr FlworOf Order) →
    order_gives truths (mention_steps v) (roll-Order x) ≡ order_mentioned v x
order_rolled v x = fold-roll-Order _ _ _ _ _ _ _ _ _ _ _ _ _ _ _ _ _ _ x
