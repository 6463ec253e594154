-- The texts of an expression are allowed where its own are, and those of its parts.
use Rattle.std.proofs.Common.{◌≡◌, map}
use Rattle.std.specs.Prelude.{Bool, ◌&&◌}
use Rattle.xt_forms.specs.Regular.{every}
use Rattle.xt_syntax.specs.declared.exprs.Expr.{Expr}
use Rattle.xt_syntax.specs.declared.exprs.Arm.{Arm}
use Rattle.xt_syntax.specs.declared.exprs.Clause.{Clause}
use Rattle.xt_syntax.specs.declared.exprs.Order.{Order}
use Rattle.xt_syntax.specs.declared.exprs.Flwor.{Flwor as FlworOf}
use Rattle.xt_syntax.specs.declared.exprs.Bind.{Bind}
use Rattle.xt_syntax.specs.declared.exprs.NameSource.{NameSource}
use Rattle.xt_syntax.specs.declared.exprs.DirectAttr.{DirectAttr}
use Rattle.xt_syntax.specs.declared.exprs.Part.{Part}
use Rattle.xt_syntax.specs.declared.exprs.Clause.TheOpen.{Expr-F, Arm-F, Clause-F, Order-F}
use Rattle.xt_syntax.specs.declared.exprs.Clause.TheOpen.{Flwor-F}
use Rattle.xt_syntax.specs.declared.exprs.Clause.TheOpen.{Bind-F, NameSource-F, DirectAttr-F}
use Rattle.xt_syntax.specs.declared.exprs.Clause.TheOpen.{Part-F}
use Rattle.xt_syntax.specs.declared.exprs.Clause.TheViews.{roll-Expr, roll-Arm, roll-Clause}
use Rattle.xt_syntax.specs.declared.exprs.Clause.TheViews.{roll-Order}
use Rattle.xt_syntax.specs.declared.exprs.Clause.TheViews.{roll-Flwor, roll-Bind, roll-NameSource}
use Rattle.xt_syntax.specs.declared.exprs.Clause.TheViews.{roll-DirectAttr, roll-Part}
use Rattle.xt_syntax.specs.declared.exprs.Clause.TheFolds.{fold-roll-Expr, fold-roll-Arm}
use Rattle.xt_syntax.specs.declared.exprs.Clause.TheFolds.{fold-roll-Clause, fold-roll-Order}
use Rattle.xt_syntax.specs.declared.exprs.Clause.TheFolds.{fold-roll-Flwor, fold-roll-Bind}
use Rattle.xt_syntax.specs.declared.exprs.Clause.TheFolds.{fold-roll-NameSource, fold-roll-Part}
use Rattle.xt_syntax.specs.declared.exprs.Clause.TheFolds.{fold-roll-DirectAttr}
use Rattle.xt_syntax.specs.declared.exprs.Clause.TheFolds.{map-Expr, map-Clause}
use Rattle.xt_syntax.specs.declared.exprs.Clause.TheFolds.{map-Flwor, map-NameSource}
use Rattle.xt_syntax.specs.declared.exprs.Clause.TheFolds.{map-Part}
use Rattle.closed_queries.specs.Texts.{is_sound_attribute_name}
use Rattle.closed_queries.specs.Texts.{is_sound_expr_name}
use Rattle.closed_queries.specs.Texts.{is_sound_kind}
use Rattle.closed_queries.specs.ExprTexts.{sounds, expr_sound}
use Rattle.closed_queries.specs.ExprTexts.{clause_sound, name_sound, part_sound, flwor_sound}
use Rattle.closed_queries.specs.ExprTexts.{has_sound_texts}
use Rattle.closed_queries.specs.ExprTexts.{is_sound_arm, is_sound_clause, bound_of, is_sound_order}
use Rattle.closed_queries.specs.ExprTexts.{is_sound_source, is_sound_attr, is_sound_part}
use Rattle.closed_queries.specs.ExprTexts.{is_sound_flwor}

-- the forms of syntax over their parts
abbrev pub ExprForm : Type 0
ExprForm = Expr-F Clause Expr NameSource Part Arm Bind DirectAttr FlworOf Order

abbrev pub ArmForm : Type 0
ArmForm = Arm-F Clause Expr NameSource Part Arm Bind DirectAttr FlworOf Order

abbrev pub BindForm : Type 0
BindForm = Bind-F Clause Expr NameSource Part Arm Bind DirectAttr FlworOf Order

abbrev pub OrderForm : Type 0
OrderForm = Order-F Clause Expr NameSource Part Arm Bind DirectAttr FlworOf Order

abbrev pub AttrForm : Type 0
AttrForm = DirectAttr-F Clause Expr NameSource Part Arm Bind DirectAttr FlworOf Order

abbrev pub FlworForm : Type 0
FlworForm = Flwor-F Clause Expr NameSource Part Arm Bind DirectAttr FlworOf Order

abbrev pub ClauseForm : Type 0
ClauseForm = Clause-F Clause Expr NameSource Part Arm Bind DirectAttr FlworOf Order

abbrev pub NameForm : Type 0
NameForm = NameSource-F Clause Expr NameSource Part Arm Bind DirectAttr FlworOf Order

abbrev pub PartForm : Type 0
PartForm = Part-F Clause Expr NameSource Part Arm Bind DirectAttr FlworOf Order

abbrev pub texts_of : ExprForm → Bool
texts_of x = expr_sound (map-Expr Clause Expr NameSource Part Arm Bind DirectAttr FlworOf Order
    sounds.Clauses sounds.Exprs sounds.Names sounds.Parts sounds.Arms sounds.Binds sounds.Attrs sounds.Flwors sounds.Orders
    is_sound_clause has_sound_texts is_sound_source is_sound_part is_sound_arm bound_of
    is_sound_attr is_sound_flwor is_sound_order x)

pub texts_rolled : (x : ExprForm) →
    has_sound_texts (roll-Expr x) ≡ texts_of x
texts_rolled x = fold-roll-Expr _ _ _ _ _ _ _ _ _ _ _ _ _ _ _ _ _ _ x

pub arm_texts_rolled : (x : ArmForm) →
    is_sound_arm (roll-Arm x) ≡ (has_sound_texts x.test && has_sound_texts x.then)
arm_texts_rolled x = fold-roll-Arm _ _ _ _ _ _ _ _ _ _ _ _ _ _ _ _ _ _ x

pub bind_texts_rolled : (x : BindForm) →
    bound_of (roll-Bind x) ≡ record {
      var = x.var;
      sound = is_sound_expr_name x.var && (is_sound_kind x.kind && has_sound_texts x.source);
    }
bind_texts_rolled x = fold-roll-Bind _ _ _ _ _ _ _ _ _ _ _ _ _ _ _ _ _ _ x

pub order_texts_rolled : (x : OrderForm) →
    is_sound_order (roll-Order x) ≡ has_sound_texts x.key
order_texts_rolled x = fold-roll-Order _ _ _ _ _ _ _ _ _ _ _ _ _ _ _ _ _ _ x

pub attr_texts_rolled : (x : AttrForm) →
    is_sound_attr (roll-DirectAttr x) ≡ (is_sound_attribute_name x.name && every (map is_sound_part x.parts))
attr_texts_rolled x = fold-roll-DirectAttr _ _ _ _ _ _ _ _ _ _ _ _ _ _ _ _ _ _ x

abbrev pub flwor_texts : FlworForm → Bool
flwor_texts x = flwor_sound (map-Flwor Clause Expr NameSource Part Arm Bind DirectAttr FlworOf Order
    sounds.Clauses sounds.Exprs sounds.Names sounds.Parts sounds.Arms sounds.Binds sounds.Attrs sounds.Flwors sounds.Orders
    is_sound_clause has_sound_texts is_sound_source is_sound_part is_sound_arm bound_of
    is_sound_attr is_sound_flwor is_sound_order x)

pub flwor_texts_rolled : (x : FlworForm) →
    is_sound_flwor (roll-Flwor x) ≡ flwor_texts x
flwor_texts_rolled x = fold-roll-Flwor _ _ _ _ _ _ _ _ _ _ _ _ _ _ _ _ _ _ x

abbrev pub clause_texts : ClauseForm → Bool
clause_texts x = clause_sound (map-Clause Clause Expr NameSource Part Arm Bind DirectAttr FlworOf Order
    sounds.Clauses sounds.Exprs sounds.Names sounds.Parts sounds.Arms sounds.Binds sounds.Attrs sounds.Flwors sounds.Orders
    is_sound_clause has_sound_texts is_sound_source is_sound_part is_sound_arm bound_of
    is_sound_attr is_sound_flwor is_sound_order x)

pub clause_texts_rolled : (x : ClauseForm) →
    is_sound_clause (roll-Clause x) ≡ clause_texts x
clause_texts_rolled x = fold-roll-Clause _ _ _ _ _ _ _ _ _ _ _ _ _ _ _ _ _ _ x

abbrev pub name_texts : NameForm → Bool
name_texts x = name_sound (map-NameSource Clause Expr NameSource Part Arm Bind DirectAttr FlworOf Order
    sounds.Clauses sounds.Exprs sounds.Names sounds.Parts sounds.Arms sounds.Binds sounds.Attrs sounds.Flwors sounds.Orders
    is_sound_clause has_sound_texts is_sound_source is_sound_part is_sound_arm bound_of
    is_sound_attr is_sound_flwor is_sound_order x)

pub name_texts_rolled : (x : NameForm) →
    is_sound_source (roll-NameSource x) ≡ name_texts x
name_texts_rolled x = fold-roll-NameSource _ _ _ _ _ _ _ _ _ _ _ _ _ _ _ _ _ _ x

abbrev pub part_texts : PartForm → Bool
part_texts x = part_sound (map-Part Clause Expr NameSource Part Arm Bind DirectAttr FlworOf Order
    sounds.Clauses sounds.Exprs sounds.Names sounds.Parts sounds.Arms sounds.Binds sounds.Attrs sounds.Flwors sounds.Orders
    is_sound_clause has_sound_texts is_sound_source is_sound_part is_sound_arm bound_of
    is_sound_attr is_sound_flwor is_sound_order x)

pub part_texts_rolled : (x : PartForm) →
    is_sound_part (roll-Part x) ≡ part_texts x
part_texts_rolled x = fold-roll-Part _ _ _ _ _ _ _ _ _ _ _ _ _ _ _ _ _ _ x
