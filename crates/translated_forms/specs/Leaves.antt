-- Expressions and types of a stylesheet that are regular, of which the expressions nest at most 40
-- levels.
use Rattle.std.specs.Prelude.{map, List, Bool, true, ◌&&◌, nat_le, Option, Some, None}
use Rattle.std.specs.List.{list_all}
use Rattle.xt_forms.specs.Nest.{nest_of}
use Rattle.xt_forms.specs.Regular.{every, is_regular_expr, is_regular_kind}
use Rattle.xt_syntax.specs.declared.exprs.Expr.{Expr}
use Rattle.xt_syntax.specs.declared.patterns.Pattern.{Pattern}
use Rattle.xt_sheets.specs.declared.values.AvtPart.{AvtPart}
use Rattle.xt_sheets.specs.declared.values.AvtPart.TheVariants as avt
use Rattle.xt_sheets.specs.declared.values.LiteralAttr.{LiteralAttr}
use Rattle.xt_sheets.specs.declared.values.Grouping.{Grouping}
use Rattle.xt_sheets.specs.declared.values.Grouping.TheVariants.{By, Adjacent, Starting}
use Rattle.xt_sheets.specs.declared.values.Sort.{Sort}
use Rattle.xt_sheets.specs.declared.instrs.Instr.{Instr}
use Rattle.xt_sheets.specs.declared.instrs.Bound.{Bound}
use Rattle.xt_sheets.specs.declared.instrs.Value.{Value}
use Rattle.xt_sheets.specs.declared.instrs.When.{When}
use Rattle.xt_sheets.specs.declared.instrs.Instr.TheOpen.{Chars, ValueOf, Literal, Element}
use Rattle.xt_sheets.specs.declared.instrs.Instr.TheOpen.{Attribute, Comment, Pi, Document, Copy}
use Rattle.xt_sheets.specs.declared.instrs.Instr.TheOpen.{CopyOf, Sequence, If, Choose, ForEach}
use Rattle.xt_sheets.specs.declared.instrs.Instr.TheOpen.{ForEachGroup, PerformSort, Variable}
use Rattle.xt_sheets.specs.declared.instrs.Instr.TheOpen.{Apply, ApplyImports, NextMatch}
use Rattle.xt_sheets.specs.declared.instrs.Instr.TheOpen.{CallTemplate, Select, Body, EmptyText}
use Rattle.xt_sheets.specs.declared.instrs.Instr.TheOpen.{EmptyList, Required}
use Rattle.xt_sheets.specs.Layers.{Kinds, Steps, InstrLayer, ValueLayer}
use Rattle.xt_sheets.specs.Layers.{instr_gives, value_gives, bound_gives, when_gives}

unfoldable pub is_leaf : Expr → Bool
is_leaf e = nat_le (nest_of e) 40 && is_regular_expr e

unfoldable pub if_leaf : Option Expr → Bool
if_leaf None = true
if_leaf (Some e) = is_leaf e

unfoldable pub part_leaf : AvtPart Expr → Bool
part_leaf (avt.Chars text) = true
part_leaf (avt.Code e) = is_leaf e

abbrev pub template_leaves : List (AvtPart Expr) → Bool
template_leaves parts = list_all part_leaf parts

unfoldable pub separator_leaves : Option (List (AvtPart Expr)) → Bool
separator_leaves None = true
separator_leaves (Some parts) = template_leaves parts

abbrev pub attribute_leaves : LiteralAttr Expr → Bool
attribute_leaves a = template_leaves a.value

abbrev pub sort_leaf : Sort Expr → Bool
sort_leaf s = is_leaf s.key

abbrev pub leaves : Kinds
leaves = record { Instrs = Bool; Values = Bool; Bounds = Bool; Whens = Bool }

-- the patterns are those of which a test says so
module _ (tested : Pattern → Bool) where
  unfoldable pub grouping_leaves : Grouping Expr Pattern → Bool
  grouping_leaves (By e) = is_leaf e
  grouping_leaves (Adjacent e) = is_leaf e
  grouping_leaves (Starting patterns) = list_all tested patterns

  abbrev pub instr_leaves : InstrLayer Expr Pattern leaves → Bool
  instr_leaves (Chars text) = true
  instr_leaves (ValueOf select body separator) =
      if_leaf select && (every body && separator_leaves separator)
  instr_leaves (Literal name attributes body) =
      list_all attribute_leaves attributes && every body
  instr_leaves (Element name body) = template_leaves name.text && every body
  instr_leaves (Attribute name select body separator) =
      template_leaves name.text
      && (if_leaf select && (every body && separator_leaves separator))
  instr_leaves (Comment select body) = if_leaf select && every body
  instr_leaves (Pi name select body) = template_leaves name && (if_leaf select && every body)
  instr_leaves (Document body) = every body
  instr_leaves (Copy body) = every body
  instr_leaves (CopyOf e) = is_leaf e
  instr_leaves (Sequence e) = is_leaf e
  instr_leaves (If condition body) = is_leaf condition && every body
  instr_leaves (Choose whens other) = every whens && every other
  instr_leaves (ForEach select sorts body) =
      is_leaf select && (list_all sort_leaf sorts && every body)
  instr_leaves (ForEachGroup select grouping sorts body) =
      is_leaf select && (grouping_leaves grouping && (list_all sort_leaf sorts && every body))
  instr_leaves (PerformSort select sorts body) =
      if_leaf select && (list_all sort_leaf sorts && every body)
  instr_leaves (Variable bound) = bound
  instr_leaves (Apply select mode sorts given) =
      if_leaf select && (list_all sort_leaf sorts && every given)
  instr_leaves (ApplyImports given) = every given
  instr_leaves (NextMatch given) = every given
  instr_leaves (CallTemplate place given) = every given

  abbrev pub value_leaves : ValueLayer Expr Pattern leaves → Bool
  value_leaves (Select e) = is_leaf e
  value_leaves (Body body) = every body
  value_leaves EmptyText = true
  value_leaves EmptyList = true
  value_leaves Required = true

  abbrev pub leaf_steps : Steps Expr Pattern leaves
  leaf_steps = record {
    of_instr = instr_leaves;
    of_value = value_leaves;
    of_bound = λ b. is_regular_kind b.kind && b.value;
    of_when = λ w. is_leaf w.test && every w.body;
  }

  abbrev pub has_leaves : Instr Expr Pattern → Bool
  has_leaves = instr_gives leaves leaf_steps

  abbrev pub value_has_leaves : Value Expr Pattern → Bool
  value_has_leaves = value_gives leaves leaf_steps

  abbrev pub bound_has_leaves : Bound Expr Pattern → Bool
  bound_has_leaves = bound_gives leaves leaf_steps

  abbrev pub when_has_leaves : When Expr Pattern → Bool
  when_has_leaves = when_gives leaves leaf_steps

  abbrev pub body_has_leaves : List (Instr Expr Pattern) → Bool
  body_has_leaves body = every (map has_leaves body)
