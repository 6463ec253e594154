-- What the grouping keys within a sequence constructor use (XSLT 2.0, 14.3).
use Rattle.std.specs.Prelude.{List, map}
use Rattle.xt_syntax.specs.declared.exprs.Expr.{Expr}
use Rattle.xt_syntax.specs.declared.patterns.Pattern.{Pattern}
use Rattle.xt_sheets.specs.declared.values.Grouping.{Grouping}
use Rattle.xt_sheets.specs.declared.values.Grouping.TheVariants.{By, Adjacent, Starting}
use Rattle.xt_sheets.specs.declared.instrs.Instr.{Instr}
use Rattle.xt_sheets.specs.declared.instrs.Value.{Value as ValueOfBound}
use Rattle.xt_sheets.specs.declared.instrs.Bound.{Bound}
use Rattle.xt_sheets.specs.declared.instrs.When.{When}
use Rattle.xt_sheets.specs.declared.instrs.Instr.TheOpen.{Chars, ValueOf, Literal, Element}
use Rattle.xt_sheets.specs.declared.instrs.Instr.TheOpen.{Attribute, Comment, Pi, Document, Copy}
use Rattle.xt_sheets.specs.declared.instrs.Instr.TheOpen.{CopyOf, Sequence, If, Choose, ForEach}
use Rattle.xt_sheets.specs.declared.instrs.Instr.TheOpen.{ForEachGroup, PerformSort, Variable}
use Rattle.xt_sheets.specs.declared.instrs.Instr.TheOpen.{Apply, ApplyImports, NextMatch}
use Rattle.xt_sheets.specs.declared.instrs.Instr.TheOpen.{CallTemplate, Select, Body, EmptyText}
use Rattle.xt_sheets.specs.declared.instrs.Instr.TheOpen.{EmptyList, Required}
use Rattle.xt_sheets.specs.Layers.{Kinds, Steps, InstrLayer, ValueLayer}
use Rattle.xt_sheets.specs.Layers.{instr_gives, value_gives, bound_gives, when_gives}
use Rattle.sheet_uses.specs.Exprs.{Finds, nothing, two, all_in, expr_uses}

unfoldable pub grouping_keys : Grouping Expr Pattern → Finds
grouping_keys (By e) = (expr_uses e).finds
grouping_keys (Adjacent e) = (expr_uses e).finds
grouping_keys (Starting patterns) = nothing

abbrev pub keys : Kinds
keys = record { Instrs = Finds; Values = Finds; Bounds = Finds; Whens = Finds }

abbrev pub instr_layer : InstrLayer Expr Pattern keys → Finds
instr_layer (Chars text) = nothing
instr_layer (ValueOf select body separator) = all_in body
instr_layer (Literal name attrs body) = all_in body
instr_layer (Element name body) = all_in body
instr_layer (Attribute name select body separator) = all_in body
instr_layer (Comment select body) = all_in body
instr_layer (Pi name select body) = all_in body
instr_layer (Document body) = all_in body
instr_layer (Copy body) = all_in body
instr_layer (CopyOf e) = nothing
instr_layer (Sequence e) = nothing
instr_layer (If test body) = all_in body
instr_layer (Choose whens other) = two (all_in whens) (all_in other)
instr_layer (ForEach select sorts body) = all_in body
instr_layer (ForEachGroup select grouping sorts body) = two (grouping_keys grouping) (all_in body)
instr_layer (PerformSort select sorts body) = all_in body
instr_layer (Variable bound) = bound
instr_layer (Apply select mode sorts params) = all_in params
instr_layer (ApplyImports params) = all_in params
instr_layer (NextMatch params) = all_in params
instr_layer (CallTemplate n params) = all_in params

abbrev pub value_layer : ValueLayer Expr Pattern keys → Finds
value_layer (Select e) = nothing
value_layer (Body body) = all_in body
value_layer EmptyText = nothing
value_layer EmptyList = nothing
value_layer Required = nothing

abbrev pub key_steps : Steps Expr Pattern keys
key_steps = record {
  of_instr = instr_layer;
  of_value = value_layer;
  of_bound = λ b. b.value;
  of_when = λ w. all_in w.body;
}

abbrev pub instr_keys : Instr Expr Pattern → Finds
instr_keys = instr_gives keys key_steps

abbrev pub value_keys : ValueOfBound Expr Pattern → Finds
value_keys = value_gives keys key_steps

abbrev pub bound_keys : Bound Expr Pattern → Finds
bound_keys = bound_gives keys key_steps

abbrev pub when_keys : When Expr Pattern → Finds
when_keys = when_gives keys key_steps

-- what the grouping keys within the instructions use
abbrev pub body_keys : List (Instr Expr Pattern) → Finds
body_keys all = all_in (map instr_keys all)

-- .. and what those within the defaults of parameters and in the content use
abbrev pub callee_keys : List (Bound Expr Pattern) → List (Instr Expr Pattern) → Finds
callee_keys params body = two (all_in (map bound_keys params)) (body_keys body)
