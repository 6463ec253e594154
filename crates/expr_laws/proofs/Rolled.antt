-- What an expression means is what its form means, over what its parts mean.
use Rattle.std.proofs.Common.{◌≡◌, map}
use Rattle.xt_syntax.specs.declared.exprs.Expr.{Expr}
use Rattle.xt_syntax.specs.declared.exprs.Arm.{Arm}
use Rattle.xt_syntax.specs.declared.exprs.Clause.{Clause}
use Rattle.xt_syntax.specs.declared.exprs.Order.{Order}
use Rattle.xt_syntax.specs.declared.exprs.Flwor.{Flwor as FlworOf}
use Rattle.xt_syntax.specs.declared.exprs.Bind.{Bind}
use Rattle.xt_syntax.specs.declared.exprs.NameSource.{NameSource}
use Rattle.xt_syntax.specs.declared.exprs.DirectAttr.{DirectAttr}
use Rattle.xt_syntax.specs.declared.exprs.Part.{Part}
use Rattle.xt_syntax.specs.declared.exprs.Clause.TheViews.{roll-Expr, roll-Arm, roll-Clause}
use Rattle.xt_syntax.specs.declared.exprs.Clause.TheViews.{roll-Order}
use Rattle.xt_syntax.specs.declared.exprs.Clause.TheViews.{roll-Flwor, roll-Bind, roll-NameSource}
use Rattle.xt_syntax.specs.declared.exprs.Clause.TheViews.{roll-DirectAttr, roll-Part}
use Rattle.xt_syntax.specs.declared.exprs.Clause.TheFolds.{fold-roll-Expr, fold-roll-Arm}
use Rattle.xt_syntax.specs.declared.exprs.Clause.TheFolds.{fold-roll-Clause, fold-roll-Order}
use Rattle.xt_syntax.specs.declared.exprs.Clause.TheFolds.{fold-roll-Flwor, fold-roll-Bind}
use Rattle.xt_syntax.specs.declared.exprs.Clause.TheFolds.{fold-roll-NameSource, fold-roll-Part}
use Rattle.xt_syntax.specs.declared.exprs.Clause.TheFolds.{fold-roll-DirectAttr}
use Rattle.xt_syntax.specs.declared.exprs.Clause.TheFolds.{map-Expr, map-Clause}
use Rattle.xt_syntax.specs.declared.exprs.Clause.TheFolds.{map-Flwor, map-NameSource}
use Rattle.xt_syntax.specs.declared.exprs.Clause.TheFolds.{map-Part}
use Rattle.xt_syntax.specs.Layers.{clause_gives, name_gives, part_gives, arm_gives}
use Rattle.xt_syntax.specs.Layers.{bind_gives, attr_gives, flwor_gives, order_gives}
use Rattle.expr_meaning.specs.Env.{Program, Meaning}
use Rattle.expr_meaning.specs.Meaning.{meanings, expr_means, clause_means, name_means, part_means}
use Rattle.expr_meaning.specs.Meaning.{steps, outcome}
use Rattle.expr_laws.proofs.Texts.{ExprForm, ArmForm, BindForm, OrderForm, AttrForm}
use Rattle.expr_laws.proofs.Texts.{FlworForm, ClauseForm, NameForm, PartForm}

abbrev pub means : Program → ExprForm →
    Meaning
means r x = expr_means r (map-Expr Clause Expr NameSource Part Arm Bind DirectAttr FlworOf Order
    meanings.Clauses meanings.Exprs meanings.Names meanings.Parts meanings.Arms meanings.Binds meanings.Attrs meanings.Flwors meanings.Orders
    (clause_gives meanings (steps r)) (outcome r) (name_gives meanings (steps r))
    (part_gives meanings (steps r)) (arm_gives meanings (steps r))
    (bind_gives meanings (steps r)) (attr_gives meanings (steps r))
    (flwor_gives meanings (steps r)) (order_gives meanings (steps r)) x)

pub rolled : (r : Program)
    (x : ExprForm) →
    outcome r (roll-Expr x) ≡ means r x
rolled r x = fold-roll-Expr _ _ _ _ _ _ _ _ _ _ _ _ _ _ _ _ _ _ x

pub rolled_arm : (r : Program)
    (x : ArmForm) →
    arm_gives meanings (steps r) (roll-Arm x)
    ≡ (outcome r x.test, outcome r x.then)
rolled_arm r x = fold-roll-Arm _ _ _ _ _ _ _ _ _ _ _ _ _ _ _ _ _ _ x

pub rolled_bind : (r : Program)
    (x : BindForm) →
    bind_gives meanings (steps r) (roll-Bind x)
    ≡ record { var = x.var; kind = x.kind; source = outcome r x.source }
rolled_bind r x = fold-roll-Bind _ _ _ _ _ _ _ _ _ _ _ _ _ _ _ _ _ _ x

pub rolled_order : (r : Program)
    (x : OrderForm) →
    order_gives meanings (steps r) (roll-Order x)
    ≡ (outcome r x.key, x.descending)
rolled_order r x = fold-roll-Order _ _ _ _ _ _ _ _ _ _ _ _ _ _ _ _ _ _ x

pub rolled_attr : (r : Program)
    (x : AttrForm) →
    attr_gives meanings (steps r) (roll-DirectAttr x)
    ≡ (x.name, map (part_gives meanings (steps r)) x.parts)
rolled_attr r x = fold-roll-DirectAttr _ _ _ _ _ _ _ _ _ _ _ _ _ _ _ _ _ _ x

abbrev pub flwor_value : Program →
    FlworForm → Meaning
flwor_value r x = (steps r).of_flwor
    (map-Flwor Clause Expr NameSource Part Arm Bind DirectAttr FlworOf Order
    meanings.Clauses meanings.Exprs meanings.Names meanings.Parts meanings.Arms meanings.Binds meanings.Attrs meanings.Flwors meanings.Orders
    (clause_gives meanings (steps r)) (outcome r) (name_gives meanings (steps r))
    (part_gives meanings (steps r)) (arm_gives meanings (steps r))
    (bind_gives meanings (steps r)) (attr_gives meanings (steps r))
    (flwor_gives meanings (steps r)) (order_gives meanings (steps r)) x)

pub rolled_flwor : (r : Program)
    (x : FlworForm) →
    flwor_gives meanings (steps r) (roll-Flwor x) ≡ flwor_value r x
rolled_flwor r x = fold-roll-Flwor _ _ _ _ _ _ _ _ _ _ _ _ _ _ _ _ _ _ x

abbrev pub clause_value : Program →
    ClauseForm → meanings.Clauses
clause_value r x = clause_means
    (map-Clause Clause Expr NameSource Part Arm Bind DirectAttr FlworOf Order
    meanings.Clauses meanings.Exprs meanings.Names meanings.Parts meanings.Arms meanings.Binds meanings.Attrs meanings.Flwors meanings.Orders
    (clause_gives meanings (steps r)) (outcome r) (name_gives meanings (steps r))
    (part_gives meanings (steps r)) (arm_gives meanings (steps r))
    (bind_gives meanings (steps r)) (attr_gives meanings (steps r))
    (flwor_gives meanings (steps r)) (order_gives meanings (steps r)) x)

pub rolled_clause : (r : Program)
    (x : ClauseForm) →
    clause_gives meanings (steps r) (roll-Clause x) ≡ clause_value r x
rolled_clause r x = fold-roll-Clause _ _ _ _ _ _ _ _ _ _ _ _ _ _ _ _ _ _ x

abbrev pub name_value : Program →
    NameForm → meanings.Names
name_value r x = name_means
    (map-NameSource Clause Expr NameSource Part Arm Bind DirectAttr FlworOf Order
    meanings.Clauses meanings.Exprs meanings.Names meanings.Parts meanings.Arms meanings.Binds meanings.Attrs meanings.Flwors meanings.Orders
    (clause_gives meanings (steps r)) (outcome r) (name_gives meanings (steps r))
    (part_gives meanings (steps r)) (arm_gives meanings (steps r))
    (bind_gives meanings (steps r)) (attr_gives meanings (steps r))
    (flwor_gives meanings (steps r)) (order_gives meanings (steps r)) x)

pub rolled_name : (r : Program)
    (x : NameForm) →
    name_gives meanings (steps r) (roll-NameSource x) ≡ name_value r x
rolled_name r x = fold-roll-NameSource _ _ _ _ _ _ _ _ _ _ _ _ _ _ _ _ _ _ x

abbrev pub part_value : Program →
    PartForm → meanings.Parts
part_value r x = part_means
    (map-Part Clause Expr NameSource Part Arm Bind DirectAttr FlworOf Order
    meanings.Clauses meanings.Exprs meanings.Names meanings.Parts meanings.Arms meanings.Binds meanings.Attrs meanings.Flwors meanings.Orders
    (clause_gives meanings (steps r)) (outcome r) (name_gives meanings (steps r))
    (part_gives meanings (steps r)) (arm_gives meanings (steps r))
    (bind_gives meanings (steps r)) (attr_gives meanings (steps r))
    (flwor_gives meanings (steps r)) (order_gives meanings (steps r)) x)

pub rolled_part : (r : Program)
    (x : PartForm) →
    part_gives meanings (steps r) (roll-Part x) ≡ part_value r x
rolled_part r x = fold-roll-Part _ _ _ _ _ _ _ _ _ _ _ _ _ _ _ _ _ _ x
