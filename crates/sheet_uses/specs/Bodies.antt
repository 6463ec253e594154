-- What a sequence constructor uses of what is declared around it (XSLT 2.0, 5.7).
use Rattle.std.specs.Prelude.{ℕ, List, [], ◌∷◌, ◌++◌, map, Bool, Option, Some, None}
use Rattle.std.specs.Prelude.{if◌then◌else◌}
use Rattle.xt_names.specs.declared.names.ExprName.{ExprName}
use Rattle.xt_syntax.specs.declared.exprs.Expr.{Expr}
use Rattle.xt_syntax.specs.declared.patterns.Pattern.{Pattern}
use Rattle.xt_sheets.specs.declared.values.ModeUse.{ModeUse}
use Rattle.xt_sheets.specs.declared.instrs.Instr.{Instr}
use Rattle.xt_sheets.specs.declared.instrs.Value.{Value as ValueOfBound}
use Rattle.xt_sheets.specs.declared.instrs.Bound.{Bound}
use Rattle.xt_sheets.specs.declared.instrs.When.{When}
use Rattle.xt_sheets.specs.declared.instrs.Instr.TheOpen.{Chars, ValueOf, Literal, Element}
use Rattle.xt_sheets.specs.declared.instrs.Instr.TheOpen.{Attribute, Comment, Pi, Document, Copy}
use Rattle.xt_sheets.specs.declared.instrs.Instr.TheOpen.{CopyOf, Sequence, If, Choose, ForEach}
use Rattle.xt_sheets.specs.declared.instrs.Instr.TheOpen.{ForEachGroup, PerformSort, Variable}
use Rattle.xt_sheets.specs.declared.instrs.Instr.TheOpen.{Apply, ApplyImports, NextMatch}
use Rattle.xt_sheets.specs.declared.instrs.Instr.TheOpen.{CallTemplate, Select, Body, EmptyText}
use Rattle.xt_sheets.specs.declared.instrs.Instr.TheOpen.{EmptyList, Required}
use Rattle.xt_sheets.specs.Layers.{Kinds, Steps, InstrLayer, ValueLayer}
use Rattle.xt_sheets.specs.Layers.{instr_gives, value_gives, bound_gives, when_gives}
use Rattle.sheet_uses.specs.declared.uses.Use.{Use}
use Rattle.sheet_uses.specs.declared.uses.Use.TheVariants as use_of
use Rattle.sheet_uses.specs.Exprs.{Finds, Binder, nothing, two, all_in, binders_in, behind, expr_uses}
use Rattle.sheet_uses.specs.Values.{if_expr, if_template, template_uses, attribute_uses}
use Rattle.sheet_uses.specs.Values.{sort_uses, grouping_uses}

-- what is found in what a variable or parameter is bound to
pub record BoundFound : Type 0 where
  pub name : ExprName
  pub tunnel : Bool
  pub source : Finds

-- an instruction binds the variable of xsl:variable for those after it
abbrev pub uses : Kinds
uses = record { Instrs = Binder; Values = Finds; Bounds = BoundFound; Whens = Finds }

abbrev pub sources_in : List BoundFound → Finds
sources_in [] scope found = found
sources_in (b ∷ bs) scope found = sources_in bs scope (b.source scope found)

-- the names of those that are no tunnel parameters
abbrev pub ordinary : List BoundFound → List ExprName
ordinary [] = []
ordinary (b ∷ bs) = if b.tunnel then ordinary bs else b.name ∷ ordinary bs

abbrev pub no_names : Finds → Binder
no_names f = record { names = []; source = f }

abbrev pub three : Finds → Finds → Finds → Finds
three a b c scope found = c scope (b scope (a scope found))

abbrev pub four : Finds → Finds → Finds → Finds → Finds
four a b c d scope found = d scope (c scope (b scope (a scope found)))

abbrev pub template_called : ℕ → List BoundFound → Finds
template_called n params scope found =
    sources_in params scope (found ++ use_of.Template n (ordinary params) ∷ [])

abbrev pub applied : ModeUse → Finds
applied mode scope found = found ++ use_of.Apply mode ∷ []

abbrev pub instr_layer : InstrLayer Expr Pattern uses → Binder
instr_layer (Chars text) = no_names nothing
instr_layer (ValueOf select body separator) =
    no_names (three (if_expr select) (if_template separator) (binders_in body))
instr_layer (Literal name attrs body) =
    no_names (two (all_in (map attribute_uses attrs)) (binders_in body))
instr_layer (Element name body) = no_names (two (template_uses name.text) (binders_in body))
instr_layer (Attribute name select body separator) =
    no_names
    (four (template_uses name.text) (if_expr select) (if_template separator) (binders_in body))
instr_layer (Comment select body) = no_names (two (if_expr select) (binders_in body))
instr_layer (Pi name select body) =
    no_names (three (template_uses name) (if_expr select) (binders_in body))
instr_layer (Document body) = no_names (binders_in body)
instr_layer (Copy body) = no_names (binders_in body)
instr_layer (CopyOf e) = no_names (expr_uses e).finds
instr_layer (Sequence e) = no_names (expr_uses e).finds
instr_layer (If test body) = no_names (two (expr_uses test).finds (binders_in body))
instr_layer (Choose whens other) = no_names (two (all_in whens) (binders_in other))
instr_layer (ForEach select sorts body) =
    no_names (three (expr_uses select).finds (all_in (map sort_uses sorts)) (binders_in body))
instr_layer (ForEachGroup select grouping sorts body) =
    no_names
    (four (expr_uses select).finds (grouping_uses grouping) (all_in (map sort_uses sorts))
    (binders_in body))
instr_layer (PerformSort select sorts body) =
    no_names (three (if_expr select) (all_in (map sort_uses sorts)) (binders_in body))
instr_layer (Variable bound) = record { names = bound.name ∷ []; source = bound.source }
instr_layer (Apply select mode sorts params) =
    no_names
    (four (applied mode) (if_expr select) (all_in (map sort_uses sorts)) (sources_in params))
instr_layer (ApplyImports params) = no_names (sources_in params)
instr_layer (NextMatch params) = no_names (sources_in params)
instr_layer (CallTemplate n params) = no_names (template_called n params)

abbrev pub value_layer : ValueLayer Expr Pattern uses → Finds
value_layer (Select e) = (expr_uses e).finds
value_layer (Body body) = binders_in body
value_layer EmptyText = nothing
value_layer EmptyList = nothing
value_layer Required = nothing

abbrev pub use_steps : Steps Expr Pattern uses
use_steps = record {
  of_instr = instr_layer;
  of_value = value_layer;
  of_bound = λ b. record { name = b.name; tunnel = b.tunnel; source = b.value };
  of_when = λ w. two (expr_uses w.test).finds (binders_in w.body);
}

abbrev pub instr_uses : Instr Expr Pattern → Binder
instr_uses = instr_gives uses use_steps

abbrev pub value_uses : ValueOfBound Expr Pattern → Finds
value_uses = value_gives uses use_steps

abbrev pub bound_uses : Bound Expr Pattern → BoundFound
bound_uses = bound_gives uses use_steps

abbrev pub when_uses : When Expr Pattern → Finds
when_uses = when_gives uses use_steps

-- what the instructions of a sequence constructor use
abbrev pub body_uses : List (Instr Expr Pattern) → Finds
body_uses all = binders_in (map instr_uses all)

-- a parameter, which those after it see
abbrev pub param_uses : Bound Expr Pattern → Binder
param_uses b = record { names = (bound_uses b).name ∷ []; source = (bound_uses b).source }

-- what a template or a function uses: the default of each parameter sees those before it, and the
-- content sees all (XSLT 2.0, 10.1 and 10.3)
abbrev pub callee_uses : List (Bound Expr Pattern) → List (Instr Expr Pattern) → Finds
callee_uses params body scope found =
    body_uses body (behind (map param_uses params) scope)
    (binders_in (map param_uses params) scope found)
