-- What an instruction does (XSLT 2.0, 5.7): one line a form, each over what its parts do.
use Rattle.std.specs.Prelude.{List, [], map, Option, Some, None, option_map}
use Rattle.xt_types.specs.declared.types.SeqType.{SeqType}
use Rattle.xt_syntax.specs.declared.exprs.Expr.{Expr}
use Rattle.xt_syntax.specs.declared.patterns.Pattern.{Pattern}
use Rattle.xt_sheets.specs.declared.values.AvtPart.{AvtPart}
use Rattle.xt_sheets.specs.declared.values.AvtName.{AvtName}
use Rattle.xt_sheets.specs.declared.values.LiteralAttr.{LiteralAttr}
use Rattle.xt_sheets.specs.declared.values.Sort.{Sort}
use Rattle.xt_sheets.specs.declared.values.Grouping.{Grouping}
use Rattle.xt_sheets.specs.declared.values.Grouping.TheVariants.{By, Adjacent, Starting}
use Rattle.xt_sheets.specs.declared.instrs.Instr.{Instr}
use Rattle.xt_sheets.specs.declared.instrs.Value.{Value}
use Rattle.xt_sheets.specs.declared.instrs.Bound.{Bound}
use Rattle.xt_sheets.specs.declared.instrs.When.{When}
use Rattle.xt_sheets.specs.declared.instrs.Instr.TheOpen.{Chars, ValueOf, Literal, Element}
use Rattle.xt_sheets.specs.declared.instrs.Instr.TheOpen.{Attribute, Comment, Pi, Document, Copy}
use Rattle.xt_sheets.specs.declared.instrs.Instr.TheOpen.{CopyOf, Sequence, If, Choose, ForEach}
use Rattle.xt_sheets.specs.declared.instrs.Instr.TheOpen.{ForEachGroup, PerformSort, Variable}
use Rattle.xt_sheets.specs.declared.instrs.Instr.TheOpen.{Apply, ApplyImports, NextMatch}
use Rattle.xt_sheets.specs.declared.instrs.Instr.TheOpen.{CallTemplate, Select, Body, EmptyText}
use Rattle.xt_sheets.specs.declared.instrs.Instr.TheOpen.{EmptyList, Required}
use Rattle.xt_sheets.specs.declared.sheets.Sheet.{Sheet}
use Rattle.xt_sheets.specs.Layers.{Kinds, Steps, InstrLayer, ValueLayer}
use Rattle.xt_sheets.specs.Layers.{instr_gives, value_gives, bound_gives, when_gives}
use Rattle.rule_order.specs.Rules.{best_below, best_imported}
use Rattle.expr_meaning.specs.Env.{Meaning, Program}
use Rattle.expr_meaning.specs.Logic.{either_of, choice_of}
use Rattle.expr_meaning.specs.Meaning.{outcome}
use Rattle.expr_meaning.specs.Values.{just}
use Rattle.transform_meaning.specs.Bindings.{BoundMeaning, Doing, Binds, Makes, body_of, nothing}
use Rattle.transform_meaning.specs.Bindings.{converted_value, content_value, empty_text, own_value}
use Rattle.transform_meaning.specs.Dispatch.{Doors, apply_of, overridden_of, call_of}
use Rattle.transform_meaning.specs.Grouping.{GroupingMeaning, by, adjacent, starting, each_group_of}
use Rattle.transform_meaning.specs.Making.{AttributeMeaning, document_with, text_made, value_made}
use Rattle.transform_meaning.specs.Making.{literal_made, element_made, attribute_made}
use Rattle.transform_meaning.specs.Making.{comment_made, pi_made, copy_of, copy_made}
use Rattle.transform_meaning.specs.Names.{NameMeaning, element_named, attribute_named, target_named}
use Rattle.transform_meaning.specs.Sorting.{SortMeaning, each_of, sorted_of}
use Rattle.transform_meaning.specs.Texts.{TextMeaning, source_of, text_of_source, template_means}

abbrev pub select_means : Program → Option Expr → Option Meaning
select_means program select = option_map (outcome program) select

abbrev pub separator_means : Program → Option (List (AvtPart Expr)) → Option TextMeaning
separator_means program separator = option_map (template_means program) separator

abbrev pub element_name_means : Program → AvtName Expr → NameMeaning
element_name_means program n =
    element_named n.scope n.default_uri (template_means program n.text)

abbrev pub attribute_name_means : Program → AvtName Expr → NameMeaning
attribute_name_means program n = attribute_named n.scope (template_means program n.text)

abbrev pub attribute_means : Program → LiteralAttr Expr → AttributeMeaning
attribute_means program a = (a.name, template_means program a.value)

abbrev pub sort_means : Program → Sort Expr → SortMeaning
sort_means program s = record {
  key = outcome program s.key;
  descending = s.descending;
  number = s.number;
}

abbrev pub sorts_mean : Program → List (Sort Expr) → List SortMeaning
sorts_mean program sorts = map (sort_means program) sorts

abbrev pub grouping_means : Program → Grouping Expr Pattern → GroupingMeaning
grouping_means program (By e) = by (outcome program e)
grouping_means program (Adjacent e) = adjacent (outcome program e)
grouping_means program (Starting patterns) = starting patterns

-- a value is what it is at the type of its variable; a required one has none
abbrev pub meanings : Kinds
meanings = record {
  Instrs = Doing;
  Values = Option SeqType → Option Meaning;
  Bounds = BoundMeaning;
  Whens = Meaning × Meaning;
}

module _ (sheet : Sheet) (doors : Doors) where
  abbrev program : Program
  program = doors.program

  abbrev pub instr_means : InstrLayer Expr Pattern meanings → Doing
  instr_means (Chars text) = Makes (text_made text)
  instr_means (ValueOf select body separator) =
      Makes (value_made (text_of_source (select_means program select) (body_of body)
      (separator_means program separator)))
  instr_means (Literal name attrs body) =
      Makes (literal_made name (map (attribute_means program) attrs) (body_of body))
  instr_means (Element name body) =
      Makes (element_made (element_name_means program name) (body_of body))
  instr_means (Attribute name select body separator) =
      Makes (attribute_made (attribute_name_means program name)
      (text_of_source (select_means program select) (body_of body)
      (separator_means program separator)))
  instr_means (Comment select body) =
      Makes (comment_made (text_of_source (select_means program select) (body_of body) None))
  instr_means (Pi name select body) =
      Makes (pi_made (target_named (template_means program name))
      (text_of_source (select_means program select) (body_of body) None))
  instr_means (Document body) = Makes (document_with (body_of body))
  instr_means (Copy body) = Makes (copy_made (body_of body))
  instr_means (CopyOf e) = Makes (copy_of (outcome program e))
  instr_means (Sequence e) = Makes (outcome program e)
  instr_means (If condition body) =
      Makes (either_of (outcome program condition) (body_of body) nothing)
  instr_means (Choose whens other) = Makes (choice_of whens (body_of other))
  instr_means (ForEach select sorts body) =
      Makes (each_of (outcome program select) (sorts_mean program sorts) (body_of body))
  instr_means (ForEachGroup select grouping sorts body) =
      Makes (each_group_of (outcome program select) (grouping_means program grouping)
      (sorts_mean program sorts) (body_of body))
  instr_means (PerformSort select sorts body) =
      Makes (sorted_of (source_of (select_means program select) (body_of body))
      (sorts_mean program sorts))
  instr_means (Variable bound) = Binds bound.name (own_value bound.value)
  instr_means (Apply select mode sorts params) =
      Makes (apply_of sheet.rules doors (select_means program select) mode
      (sorts_mean program sorts) params)
  instr_means (ApplyImports params) =
      Makes (overridden_of (best_imported sheet.levels sheet.rules) doors params)
  instr_means (NextMatch params) = Makes (overridden_of (best_below sheet.rules) doors params)
  instr_means (CallTemplate place params) = Makes (call_of doors place params)

  abbrev pub value_means : ValueLayer Expr Pattern meanings → Option SeqType → Option Meaning
  value_means (Select e) kind = Some (converted_value kind (outcome program e))
  value_means (Body body) kind = Some (content_value kind (body_of body))
  value_means EmptyText kind = Some empty_text
  value_means EmptyList kind = Some (just [])
  value_means Required kind = None

  abbrev pub steps : Steps Expr Pattern meanings
  steps = record {
    of_instr = instr_means;
    of_value = value_means;
    of_bound = λ b. record {
      name = b.name;
      kind = b.kind;
      value = b.value b.kind;
      tunnel = b.tunnel;
    };
    of_when = λ w. (outcome program w.test, body_of w.body);
  }

  -- what an instruction does in a stylesheet, where the ways out of it lead where `doors` says
  abbrev pub instr_does : Instr Expr Pattern → Doing
  instr_does = instr_gives meanings steps

  abbrev pub when_does : When Expr Pattern → Meaning × Meaning
  when_does = when_gives meanings steps

  abbrev pub bound_does : Bound Expr Pattern → BoundMeaning
  bound_does = bound_gives meanings steps

  abbrev pub value_does : Value Expr Pattern → Option SeqType → Option Meaning
  value_does = value_gives meanings steps

  abbrev pub body_does : List (Instr Expr Pattern) → Meaning
  body_does body = body_of (map instr_does body)
