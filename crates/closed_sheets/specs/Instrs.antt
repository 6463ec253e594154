-- Instructions whose expressions are regular ones of XPath, whose types are regular, and whose texts
-- and names XML allows (XSLT 2.0, 5.7).
use Rattle.std.specs.Prelude.{List, map, Bool, true, ◌&&◌}
use Rattle.std.specs.List.{list_all}
use Rattle.xt_names.specs.Classes.{is_xml_text}
use Rattle.xt_forms.specs.Regular.{every}
use Rattle.xt_syntax.specs.declared.exprs.Expr.{Expr}
use Rattle.xt_syntax.specs.declared.patterns.Pattern.{Pattern}
use Rattle.xt_sheets.specs.declared.instrs.Instr.{Instr}
use Rattle.xt_sheets.specs.declared.instrs.Value.{Value as ValueOfBound}
use Rattle.xt_sheets.specs.declared.instrs.Bound.{Bound}
use Rattle.xt_sheets.specs.declared.instrs.When.{When}
use Rattle.xt_sheets.specs.declared.instrs.Instr.TheOpen.{Chars, ValueOf, Literal, Element}
use Rattle.xt_sheets.specs.declared.instrs.Instr.TheOpen.{Attribute, Comment, Pi, Document, Copy}
use Rattle.xt_sheets.specs.declared.instrs.Instr.TheOpen.{CopyOf, Sequence, If, Choose, ForEach}
use Rattle.xt_sheets.specs.declared.instrs.Instr.TheOpen.{ForEachGroup, PerformSort, Variable}
use Rattle.xt_sheets.specs.declared.instrs.Instr.TheOpen.{Apply, ApplyImports, NextMatch}
use Rattle.xt_sheets.specs.declared.instrs.Instr.TheOpen.{CallTemplate, Select, Body, EmptyText}
use Rattle.xt_sheets.specs.declared.instrs.Instr.TheOpen.{EmptyList, Required}
use Rattle.xt_sheets.specs.Layers.{Kinds, Steps, InstrLayer, ValueLayer}
use Rattle.xt_sheets.specs.Layers.{instr_gives, value_gives, bound_gives, when_gives}
use Rattle.closed_queries.specs.Closed.{is_good_kind}
use Rattle.closed_queries.specs.Texts.{is_sound_expr_name, is_sound_name}
use Rattle.closed_sheets.specs.Values.{is_sheet_expr, if_sheet_expr, is_good_template}
use Rattle.closed_sheets.specs.Values.{if_good_template, is_good_name, is_good_attribute}
use Rattle.closed_sheets.specs.Values.{is_good_sort, is_good_grouping}

abbrev pub goods : Kinds
goods = record { Instrs = Bool; Values = Bool; Bounds = Bool; Whens = Bool }

abbrev pub instr_good : InstrLayer Expr Pattern goods → Bool
instr_good (Chars text) = is_xml_text text
instr_good (ValueOf select body separator) =
    if_sheet_expr select && (every body && if_good_template separator)
instr_good (Literal name attrs body) =
    is_sound_name name && (list_all is_good_attribute attrs && every body)
instr_good (Element name body) = is_good_name name && every body
instr_good (Attribute name select body separator) =
    is_good_name name && (if_sheet_expr select && (every body && if_good_template separator))
instr_good (Comment select body) = if_sheet_expr select && every body
instr_good (Pi name select body) =
    is_good_template name && (if_sheet_expr select && every body)
instr_good (Document body) = every body
instr_good (Copy body) = every body
instr_good (CopyOf e) = is_sheet_expr e
instr_good (Sequence e) = is_sheet_expr e
instr_good (If condition body) = is_sheet_expr condition && every body
instr_good (Choose whens other) = every whens && every other
instr_good (ForEach select sorts body) =
    is_sheet_expr select && (list_all is_good_sort sorts && every body)
instr_good (ForEachGroup select grouping sorts body) =
    is_sheet_expr select
    && (is_good_grouping grouping && (list_all is_good_sort sorts && every body))
instr_good (PerformSort select sorts body) =
    if_sheet_expr select && (list_all is_good_sort sorts && every body)
instr_good (Variable bound) = bound
instr_good (Apply select mode sorts params) =
    if_sheet_expr select && (list_all is_good_sort sorts && every params)
instr_good (ApplyImports params) = every params
instr_good (NextMatch params) = every params
instr_good (CallTemplate place params) = every params

abbrev pub value_good : ValueLayer Expr Pattern goods → Bool
value_good (Select e) = is_sheet_expr e
value_good (Body body) = every body
value_good EmptyText = true
value_good EmptyList = true
value_good Required = true

abbrev pub good_steps : Steps Expr Pattern goods
good_steps = record {
  of_instr = instr_good;
  of_value = value_good;
  of_bound = λ b. is_sound_expr_name b.name && (is_good_kind b.kind && b.value);
  of_when = λ w. is_sheet_expr w.test && every w.body;
}

abbrev pub is_good_instr : Instr Expr Pattern → Bool
is_good_instr = instr_gives goods good_steps

abbrev pub is_good_when : When Expr Pattern → Bool
is_good_when = when_gives goods good_steps

abbrev pub is_good_bound : Bound Expr Pattern → Bool
is_good_bound = bound_gives goods good_steps

abbrev pub is_good_bound_value : ValueOfBound Expr Pattern → Bool
is_good_bound_value = value_gives goods good_steps

abbrev pub is_good_body : List (Instr Expr Pattern) → Bool
is_good_body body = every (map is_good_instr body)
