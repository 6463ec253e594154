-- Instructions that may be translated in their places: what they call, and what they name.
use Rattle.std.specs.Prelude.{map, List, [], ◌∷◌, length, Bool, true, false, ◌&&◌, nat_le}
use Rattle.std.specs.Prelude.{Option, Some, None}
use Rattle.function_table.specs.Table.{any_number}
use Rattle.std.specs.List.{list_all}
use Rattle.xt_syntax.specs.declared.exprs.Expr.{Expr}
use Rattle.xt_syntax.specs.declared.patterns.Pattern.{Pattern}
use Rattle.xt_sheets.specs.declared.values.AvtPart.{AvtPart}
use Rattle.xt_sheets.specs.declared.values.AvtPart.TheVariants as avt
use Rattle.xt_sheets.specs.declared.values.LiteralAttr.{LiteralAttr}
use Rattle.xt_sheets.specs.declared.values.Grouping.{Grouping}
use Rattle.xt_sheets.specs.declared.values.Grouping.TheVariants.{By, Adjacent, Starting}
use Rattle.xt_sheets.specs.declared.values.ModeUse.{ModeUse}
use Rattle.xt_sheets.specs.declared.values.ModeUse.TheVariants.{Number, Current}
use Rattle.xt_sheets.specs.declared.values.Sort.{Sort}
use Rattle.xt_sheets.specs.declared.instrs.Instr.{Instr}
use Rattle.xt_sheets.specs.declared.instrs.Bound.{Bound}
use Rattle.xt_sheets.specs.declared.instrs.Instr.TheOpen.{Chars, ValueOf, Literal, Element}
use Rattle.xt_sheets.specs.declared.instrs.Instr.TheOpen.{Attribute, Comment, Pi, Document, Copy}
use Rattle.xt_sheets.specs.declared.instrs.Instr.TheOpen.{CopyOf, Sequence, If, Choose, ForEach}
use Rattle.xt_sheets.specs.declared.instrs.Instr.TheOpen.{ForEachGroup, PerformSort, Variable}
use Rattle.xt_sheets.specs.declared.instrs.Instr.TheOpen.{Apply, ApplyImports, NextMatch}
use Rattle.xt_sheets.specs.declared.instrs.Instr.TheOpen.{CallTemplate, Select, Body, EmptyText}
use Rattle.xt_sheets.specs.declared.instrs.Instr.TheOpen.{EmptyList, Required}
use Rattle.xt_sheets.specs.Layers.{Kinds, Steps, InstrLayer, ValueLayer}
use Rattle.xt_sheets.specs.Layers.{instr_gives, bound_gives}
use Rattle.carried_exprs.specs.Sights.{Setting, is_own_variable}
use Rattle.carried_exprs.specs.Fits.{may_be_carried}
use Rattle.translated_forms.specs.Names.{key_function}

-- whether it is in a template that rules alone reach; whether it is outside of each loop there;
-- whether there is a focus; and whether there is a group
pub record Stand : Type 0 where
  pub in_rule : Bool
  pub has_rule : Bool
  pub has_focus : Bool
  pub has_group : Bool

abbrev pub looped : Stand → Stand
looped s = record s { has_rule = false; has_focus = true }

abbrev pub grouped : Stand → Stand
grouped s = record s { has_rule = false; has_focus = true; has_group = true }

-- the content of a template that rules alone reach, of any other, of a function and of a global
abbrev pub in_rule : Stand
in_rule = record { in_rule = true; has_rule = true; has_focus = true; has_group = false }

abbrev pub in_named : Stand
in_named = record { in_rule = false; has_rule = false; has_focus = true; has_group = false }

abbrev pub in_function : Stand
in_function = record { in_rule = false; has_rule = false; has_focus = false; has_group = false }

-- how an expression is carried there
abbrev pub setting_of : Stand → Setting
setting_of s = record {
  has_current = s.has_focus;
  has_group = s.has_group;
  has_calls = true;
  has_keys = true;
  keys = λ text. key_function 0;
}

abbrev pub expr_fits : Stand → Expr → Bool
expr_fits s e = may_be_carried (setting_of s) e

abbrev pub key_fits : Stand → Expr → Bool
key_fits s e = may_be_carried (record (setting_of s) { has_calls = false }) e

unfoldable pub if_fits : Stand → Option Expr → Bool
if_fits s None = true
if_fits s (Some e) = expr_fits s e

unfoldable pub part_fits : Stand → AvtPart Expr → Bool
part_fits s (avt.Chars text) = true
part_fits s (avt.Code e) = expr_fits s e

-- no function takes more arguments than 64 bits count, so no more parts are joined
abbrev pub template_fits : Stand → List (AvtPart Expr) → Bool
template_fits s parts = nat_le (length parts) any_number && list_all (part_fits s) parts

unfoldable pub separator_fits : Stand → Option (List (AvtPart Expr)) → Bool
separator_fits s None = true
separator_fits s (Some parts) = template_fits s parts

abbrev pub attribute_fits : Stand → LiteralAttr Expr → Bool
attribute_fits s a = template_fits s a.value

abbrev pub sort_fits : Stand → Sort Expr → Bool
sort_fits s k = expr_fits s k.key

unfoldable pub grouping_fits : Stand → Grouping Expr Pattern → Bool
grouping_fits s (By e) = key_fits (looped s) e
grouping_fits s (Adjacent e) = key_fits (looped s) e
grouping_fits s (Starting patterns) = true

unfoldable pub mode_fits : Stand → ModeUse → Bool
mode_fits s (Number mode) = true
mode_fits s Current = s.in_rule

abbrev pub fits : Kinds
fits = record {
  Instrs = Stand → Bool;
  Values = Stand → Bool;
  Bounds = Stand → Bool;
  Whens = Stand → Bool;
}

abbrev pub all_fit : List (Stand → Bool) → Stand → Bool
all_fit [] s = true
all_fit (f ∷ fs) s = f s && all_fit fs s

abbrev pub instr_fits : InstrLayer Expr Pattern fits → Stand → Bool
instr_fits (Chars text) s = true
instr_fits (ValueOf select body separator) s =
    if_fits s select && (all_fit body s && separator_fits s separator)
instr_fits (Literal name attributes body) s =
    list_all (attribute_fits s) attributes && all_fit body s
instr_fits (Element name body) s = template_fits s name.text && all_fit body s
instr_fits (Attribute name select body separator) s =
    template_fits s name.text
    && (if_fits s select && (all_fit body s && separator_fits s separator))
instr_fits (Comment select body) s = if_fits s select && all_fit body s
instr_fits (Pi name select body) s =
    template_fits s name && (if_fits s select && all_fit body s)
instr_fits (Document body) s = all_fit body s
instr_fits (Copy body) s = all_fit body s
instr_fits (CopyOf e) s = expr_fits s e
instr_fits (Sequence e) s = expr_fits s e
instr_fits (If condition body) s = expr_fits s condition && all_fit body s
instr_fits (Choose whens other) s = all_fit whens s && all_fit other s
instr_fits (ForEach select sorts body) s =
    expr_fits s select
    && (list_all (sort_fits (looped s)) sorts && all_fit body (looped s))
instr_fits (ForEachGroup select grouping sorts body) s =
    expr_fits s select
    && (grouping_fits s grouping
    && (list_all (sort_fits (grouped s)) sorts && all_fit body (grouped s)))
instr_fits (PerformSort select sorts body) s =
    if_fits s select && (list_all (sort_fits (looped s)) sorts && all_fit body s)
instr_fits (Variable bound) s = bound s
instr_fits (Apply select mode sorts given) s =
    if_fits s select
    && (mode_fits s mode && (list_all (sort_fits (looped s)) sorts && all_fit given s))
instr_fits (ApplyImports given) s = s.has_rule && all_fit given s
instr_fits (NextMatch given) s = s.has_rule && all_fit given s
instr_fits (CallTemplate place given) s = s.has_focus && all_fit given s

abbrev pub value_fits : ValueLayer Expr Pattern fits → Stand → Bool
value_fits (Select e) s = expr_fits s e
value_fits (Body body) s = all_fit body s
value_fits EmptyText s = true
value_fits EmptyList s = true
value_fits Required s = true

abbrev pub fit_steps : Steps Expr Pattern fits
fit_steps = record {
  of_instr = instr_fits;
  of_value = value_fits;
  of_bound = λ b s. is_own_variable b.name && b.value s;
  of_when = λ w s. expr_fits s w.test && all_fit w.body s;
}

abbrev pub fits_there : Instr Expr Pattern → Stand → Bool
fits_there = instr_gives fits fit_steps

abbrev pub bound_fits : Bound Expr Pattern → Stand → Bool
bound_fits = bound_gives fits fit_steps

abbrev pub body_fits : List (Instr Expr Pattern) → Stand → Bool
body_fits body s = all_fit (map fits_there body) s

abbrev pub bounds_fit : List (Bound Expr Pattern) → Stand → Bool
bounds_fit bounds s = all_fit (map bound_fits bounds) s
