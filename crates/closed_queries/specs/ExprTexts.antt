-- Expressions whose texts and names are those that XML allows, and in which no `for` has one name for item and position.
use Rattle.std.specs.Prelude.{List, Bool, true, not, ◌&&◌, Option, Some, None}
use Rattle.std.specs.List.{list_all}
use Rattle.xt_names.specs.Classes.{is_xml_text}
use Rattle.xt_names.specs.declared.names.ExprName.{ExprName}
use Rattle.xt_forms.specs.Regular.{every}
use Rattle.xt_syntax.specs.declared.exprs.Expr.{Expr}
use Rattle.xt_syntax.specs.declared.exprs.Arm.{Arm}
use Rattle.xt_syntax.specs.declared.exprs.Clause.{Clause}
use Rattle.xt_syntax.specs.declared.exprs.Order.{Order}
use Rattle.xt_syntax.specs.declared.exprs.Flwor.{Flwor as FlworOf}
use Rattle.xt_syntax.specs.declared.exprs.Bind.{Bind}
use Rattle.xt_syntax.specs.declared.exprs.NameSource.{NameSource}
use Rattle.xt_syntax.specs.declared.exprs.DirectAttr.{DirectAttr}
use Rattle.xt_syntax.specs.declared.exprs.Part.{Part}
use Rattle.xt_syntax.specs.declared.exprs.Clause.TheOpen.{Int, Str, Var, Context, Root, Comma, Or, And, If, Flwor, Quant, General, Value, Is, Before, After, Range, Arith, Minus, Plus, Union, Intersect, Except, InstanceOf, Treat, Castable, Cast, Slash, Step, Filter, Call, ElemC, AttrC, DocC, TextC, CommentC, PiC, Direct, For, Let, Fixed, Computed, Chars, Enclosed, Child}
use Rattle.xt_syntax.specs.Layers.{Kinds, Steps, ExprLayer, ClauseLayer, NameLayer, PartLayer, BindLayer, FlworLayer, expr_gives, arm_gives, clause_gives, bind_gives, order_gives, name_gives, attr_gives, part_gives, flwor_gives}
use Rattle.closed_queries.specs.Texts.{is_sound_expr_name, is_sound_name, is_sound_attribute_name, is_sound_test, is_sound_type, is_sound_kind}
use Rattle.xt_names.specs.ExprNames.{same_name}

-- the variable, and whether it and its source are sound
pub record Bound : Type 0 where
  pub var : ExprName
  pub sound : Bool

abbrev pub sounds : Kinds
sounds = record { Clauses = Bool; Exprs = Bool; Names = Bool; Parts = Bool; Arms = Bool; Binds = Bound; Attrs = Bool; Flwors = Bool; Orders = Bool }

abbrev pub every_bound : List Bound → Bool
every_bound all = list_all (λ b. b.sound) all

abbrev pub expr_sound : ExprLayer sounds → Bool
expr_sound (Int n) = true
expr_sound (Str text) = is_xml_text text
expr_sound (Var name) = is_sound_expr_name name
expr_sound Context = true
expr_sound Root = true
expr_sound (Comma all) = every all
expr_sound (Or all) = every all
expr_sound (And all) = every all
expr_sound (If arms other) = every arms && other
expr_sound (Flwor parts) = parts
expr_sound (Quant every_one binds test) = every_bound binds && test
expr_sound (General op a b) = a && b
expr_sound (Value op a b) = a && b
expr_sound (Is a b) = a && b
expr_sound (Before a b) = a && b
expr_sound (After a b) = a && b
expr_sound (Range a b) = a && b
expr_sound (Arith op a b) = a && b
expr_sound (Minus a) = a
expr_sound (Plus a) = a
expr_sound (Union a b) = a && b
expr_sound (Intersect a b) = a && b
expr_sound (Except a b) = a && b
expr_sound (InstanceOf a kind) = a && is_sound_type kind
expr_sound (Treat a kind) = a && is_sound_type kind
expr_sound (Castable a kind empty) = a
expr_sound (Cast a kind empty) = a
expr_sound (Slash a b) = a && b
expr_sound (Step axis node_test tests) = is_sound_test node_test && every tests
expr_sound (Filter of tests) = of && every tests
expr_sound (Call name args) = is_sound_expr_name name && every args
expr_sound (ElemC name content) = name && content
expr_sound (AttrC name content) = name && content
expr_sound (DocC content) = content
expr_sound (TextC content) = content
expr_sound (CommentC content) = content
expr_sound (PiC name content) = name && content
expr_sound (Direct name attrs parts) = is_sound_name name && (every attrs && every parts)

-- the variable behind `at` has another name than that of the item
unfoldable pub is_sound_place : ExprName → Option ExprName → Bool
is_sound_place var None = true
is_sound_place var (Some place) = is_sound_expr_name place && not (same_name var place)

abbrev pub clause_sound : ClauseLayer sounds → Bool
clause_sound (For bind place) = bind.sound && is_sound_place bind.var place
clause_sound (Let bind) = bind.sound

abbrev pub name_sound : NameLayer sounds → Bool
name_sound (Fixed name) = is_sound_name name
name_sound (Computed e) = e

abbrev pub part_sound : PartLayer sounds → Bool
part_sound (Chars text) = is_xml_text text
part_sound (Enclosed e) = e
part_sound (Child e) = e

abbrev pub bind_sound : BindLayer sounds → Bound
bind_sound b = record { var = b.var; sound = is_sound_expr_name b.var && (is_sound_kind b.kind && b.source) }

abbrev pub if_sound : Option Bool → Bool
if_sound None = true
if_sound (Some sound) = sound

abbrev pub flwor_sound : FlworLayer sounds → Bool
flwor_sound f = every f.clauses && (if_sound f.test && (every f.orders && f.body))

abbrev pub sound_steps : Steps sounds
sound_steps = record {
  of_expr = expr_sound;
  of_clause = clause_sound;
  of_name = name_sound;
  of_part = part_sound;
  of_arm = λ a. a.test && a.then;
  of_bind = bind_sound;
  of_attr = λ a. is_sound_attribute_name a.name && every a.parts;
  of_flwor = flwor_sound;
  of_order = λ o. o.key;
}

abbrev pub has_sound_texts : Expr → Bool
has_sound_texts = expr_gives sounds sound_steps

abbrev pub is_sound_arm : Arm → Bool
is_sound_arm = arm_gives sounds sound_steps

abbrev pub is_sound_clause : Clause → Bool
is_sound_clause = clause_gives sounds sound_steps

abbrev pub bound_of : Bind → Bound
bound_of = bind_gives sounds sound_steps

abbrev pub is_sound_order : Order → Bool
is_sound_order = order_gives sounds sound_steps

abbrev pub is_sound_source : NameSource → Bool
is_sound_source = name_gives sounds sound_steps

abbrev pub is_sound_attr : DirectAttr → Bool
is_sound_attr = attr_gives sounds sound_steps

abbrev pub is_sound_part : Part → Bool
is_sound_part = part_gives sounds sound_steps

abbrev pub is_sound_flwor : FlworOf → Bool
is_sound_flwor = flwor_gives sounds sound_steps
