-- What makes each form of expression sound: what makes its parts so.
use Rattle.std.proofs.Common.{◌≡◌, Bool}
use Rattle.xt_syntax.specs.declared.exprs.Clause.{Clause}
use Rattle.xt_syntax.specs.declared.exprs.Expr.{Expr}
use Rattle.xt_syntax.specs.declared.exprs.NameSource.{NameSource}
use Rattle.xt_syntax.specs.declared.exprs.Part.{Part}
use Rattle.xt_syntax.specs.declared.exprs.Arm.{Arm}
use Rattle.xt_syntax.specs.declared.exprs.Bind.{Bind}
use Rattle.xt_syntax.specs.declared.exprs.DirectAttr.{DirectAttr}
use Rattle.xt_syntax.specs.declared.exprs.Flwor.{Flwor as FlworOf}
use Rattle.xt_syntax.specs.declared.exprs.Order.{Order}
use Rattle.xt_syntax.specs.declared.exprs.Clause.TheViews.{roll-Clause, roll-Expr, roll-NameSource}
use Rattle.xt_syntax.specs.declared.exprs.Clause.TheViews.{roll-Part, roll-Arm, roll-Bind}
use Rattle.xt_syntax.specs.declared.exprs.Clause.TheViews.{roll-DirectAttr, roll-Flwor, roll-Order}
use Rattle.xt_syntax.specs.declared.exprs.Clause.TheFolds.{map-Clause, fold-roll-Clause}
use Rattle.xt_syntax.specs.declared.exprs.Clause.TheFolds.{map-Expr, fold-roll-Expr}
use Rattle.xt_syntax.specs.declared.exprs.Clause.TheFolds.{map-NameSource, fold-roll-NameSource}
use Rattle.xt_syntax.specs.declared.exprs.Clause.TheFolds.{map-Part, fold-roll-Part}
use Rattle.xt_syntax.specs.declared.exprs.Clause.TheFolds.{map-Arm, fold-roll-Arm}
use Rattle.xt_syntax.specs.declared.exprs.Clause.TheFolds.{map-Bind, fold-roll-Bind}
use Rattle.xt_syntax.specs.declared.exprs.Clause.TheFolds.{map-DirectAttr, fold-roll-DirectAttr}
use Rattle.xt_syntax.specs.declared.exprs.Clause.TheFolds.{map-Flwor, fold-roll-Flwor}
use Rattle.xt_syntax.specs.declared.exprs.Clause.TheFolds.{map-Order, fold-roll-Order}
use Rattle.expr_raws.proofs.Induction.{OpenClause, OpenExpr, OpenName, OpenPart, OpenArm, OpenBind}
use Rattle.expr_raws.proofs.Induction.{OpenAttr, OpenFlwor, OpenOrder}
use Rattle.closed_queries.specs.ExprTexts.{Bound, sounds, sound_steps, expr_sound, clause_sound}
use Rattle.closed_queries.specs.ExprTexts.{name_sound, part_sound, bind_sound, flwor_sound}
use Rattle.closed_queries.specs.ExprTexts.{has_sound_texts, is_sound_arm, is_sound_clause}
use Rattle.closed_queries.specs.ExprTexts.{bound_of}
use Rattle.closed_queries.specs.ExprTexts.{is_sound_order, is_sound_source, is_sound_attr}
use Rattle.closed_queries.specs.ExprTexts.{is_sound_part, is_sound_flwor}

abbrev pub clause_at : OpenClause → Bool
clause_at x = clause_sound
    (map-Clause Clause Expr NameSource Part Arm Bind DirectAttr FlworOf Order
    sounds.Clauses sounds.Exprs sounds.Names sounds.Parts sounds.Arms sounds.Binds sounds.Attrs
    sounds.Flwors sounds.Orders is_sound_clause has_sound_texts is_sound_source is_sound_part
    is_sound_arm bound_of is_sound_attr is_sound_flwor is_sound_order x)

pub clause_rolled : (x : OpenClause) → is_sound_clause (roll-Clause x) ≡ clause_at x
clause_rolled x = fold-roll-Clause _ _ _ _ _ _ _ _ _ _ _ _ _ _ _ _ _ _ x

abbrev pub expr_at : OpenExpr → Bool
expr_at x = expr_sound (map-Expr Clause Expr NameSource Part Arm Bind DirectAttr FlworOf Order
    sounds.Clauses sounds.Exprs sounds.Names sounds.Parts sounds.Arms sounds.Binds sounds.Attrs
    sounds.Flwors sounds.Orders is_sound_clause has_sound_texts is_sound_source is_sound_part
    is_sound_arm bound_of is_sound_attr is_sound_flwor is_sound_order x)

pub expr_rolled : (x : OpenExpr) → has_sound_texts (roll-Expr x) ≡ expr_at x
expr_rolled x = fold-roll-Expr _ _ _ _ _ _ _ _ _ _ _ _ _ _ _ _ _ _ x

abbrev pub name_at : OpenName → Bool
name_at x = name_sound
    (map-NameSource Clause Expr NameSource Part Arm Bind DirectAttr FlworOf Order
    sounds.Clauses sounds.Exprs sounds.Names sounds.Parts sounds.Arms sounds.Binds sounds.Attrs
    sounds.Flwors sounds.Orders is_sound_clause has_sound_texts is_sound_source is_sound_part
    is_sound_arm bound_of is_sound_attr is_sound_flwor is_sound_order x)

pub name_rolled : (x : OpenName) → is_sound_source (roll-NameSource x) ≡ name_at x
name_rolled x = fold-roll-NameSource _ _ _ _ _ _ _ _ _ _ _ _ _ _ _ _ _ _ x

abbrev pub part_at : OpenPart → Bool
part_at x = part_sound (map-Part Clause Expr NameSource Part Arm Bind DirectAttr FlworOf Order
    sounds.Clauses sounds.Exprs sounds.Names sounds.Parts sounds.Arms sounds.Binds sounds.Attrs
    sounds.Flwors sounds.Orders is_sound_clause has_sound_texts is_sound_source is_sound_part
    is_sound_arm bound_of is_sound_attr is_sound_flwor is_sound_order x)

pub part_rolled : (x : OpenPart) → is_sound_part (roll-Part x) ≡ part_at x
part_rolled x = fold-roll-Part _ _ _ _ _ _ _ _ _ _ _ _ _ _ _ _ _ _ x

abbrev pub arm_at : OpenArm → Bool
arm_at x = sound_steps.of_arm
    (map-Arm Clause Expr NameSource Part Arm Bind DirectAttr FlworOf Order
    sounds.Clauses sounds.Exprs sounds.Names sounds.Parts sounds.Arms sounds.Binds sounds.Attrs
    sounds.Flwors sounds.Orders is_sound_clause has_sound_texts is_sound_source is_sound_part
    is_sound_arm bound_of is_sound_attr is_sound_flwor is_sound_order x)

pub arm_rolled : (x : OpenArm) → is_sound_arm (roll-Arm x) ≡ arm_at x
arm_rolled x = fold-roll-Arm _ _ _ _ _ _ _ _ _ _ _ _ _ _ _ _ _ _ x

abbrev pub bind_at : OpenBind → Bound
bind_at x = bind_sound (map-Bind Clause Expr NameSource Part Arm Bind DirectAttr FlworOf Order
    sounds.Clauses sounds.Exprs sounds.Names sounds.Parts sounds.Arms sounds.Binds sounds.Attrs
    sounds.Flwors sounds.Orders is_sound_clause has_sound_texts is_sound_source is_sound_part
    is_sound_arm bound_of is_sound_attr is_sound_flwor is_sound_order x)

pub bind_rolled : (x : OpenBind) → bound_of (roll-Bind x) ≡ bind_at x
bind_rolled x = fold-roll-Bind _ _ _ _ _ _ _ _ _ _ _ _ _ _ _ _ _ _ x

abbrev pub attr_at : OpenAttr → Bool
attr_at x = sound_steps.of_attr
    (map-DirectAttr Clause Expr NameSource Part Arm Bind DirectAttr FlworOf Order
    sounds.Clauses sounds.Exprs sounds.Names sounds.Parts sounds.Arms sounds.Binds sounds.Attrs
    sounds.Flwors sounds.Orders is_sound_clause has_sound_texts is_sound_source is_sound_part
    is_sound_arm bound_of is_sound_attr is_sound_flwor is_sound_order x)

pub attr_rolled : (x : OpenAttr) → is_sound_attr (roll-DirectAttr x) ≡ attr_at x
attr_rolled x = fold-roll-DirectAttr _ _ _ _ _ _ _ _ _ _ _ _ _ _ _ _ _ _ x

abbrev pub flwor_at : OpenFlwor → Bool
flwor_at x = flwor_sound (map-Flwor Clause Expr NameSource Part Arm Bind DirectAttr FlworOf Order
    sounds.Clauses sounds.Exprs sounds.Names sounds.Parts sounds.Arms sounds.Binds sounds.Attrs
    sounds.Flwors sounds.Orders is_sound_clause has_sound_texts is_sound_source is_sound_part
    is_sound_arm bound_of is_sound_attr is_sound_flwor is_sound_order x)

pub flwor_rolled : (x : OpenFlwor) → is_sound_flwor (roll-Flwor x) ≡ flwor_at x
flwor_rolled x = fold-roll-Flwor _ _ _ _ _ _ _ _ _ _ _ _ _ _ _ _ _ _ x

abbrev pub order_at : OpenOrder → Bool
order_at x = sound_steps.of_order
    (map-Order Clause Expr NameSource Part Arm Bind DirectAttr FlworOf Order
    sounds.Clauses sounds.Exprs sounds.Names sounds.Parts sounds.Arms sounds.Binds sounds.Attrs
    sounds.Flwors sounds.Orders is_sound_clause has_sound_texts is_sound_source is_sound_part
    is_sound_arm bound_of is_sound_attr is_sound_flwor is_sound_order x)

pub order_rolled : (x : OpenOrder) → is_sound_order (roll-Order x) ≡ order_at x
order_rolled x = fold-roll-Order _ _ _ _ _ _ _ _ _ _ _ _ _ _ _ _ _ _ x
