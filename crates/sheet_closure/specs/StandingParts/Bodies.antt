-- Instructions whose parts may stand where they do (XSLT 2.0, 5.7).
use Rattle.std.specs.Prelude.{List, [], ◌∷◌, map, length, Bool, true, false, not, ◌&&◌, ◌||◌, ◌==◌}
use Rattle.std.specs.Prelude.{Option, is_none}
use Rattle.std.specs.List.{list_all}
use Rattle.xt_names.specs.declared.names.ExprName.{ExprName}
use Rattle.xt_syntax.specs.declared.exprs.Expr.{Expr}
use Rattle.xt_syntax.specs.declared.patterns.Pattern.{Pattern}
use Rattle.xt_sheets.specs.declared.instrs.Instr.{Instr}
use Rattle.xt_sheets.specs.declared.instrs.Value.{Value as ValueOfBound}
use Rattle.xt_sheets.specs.declared.instrs.Bound.{Bound}
use Rattle.xt_sheets.specs.declared.instrs.When.{When}
use Rattle.xt_sheets.specs.declared.instrs.Instr.TheOpen.{Chars, ValueOf, Literal, Element}
use Rattle.xt_sheets.specs.declared.instrs.Instr.TheOpen.{Attribute, Comment, Pi, Document, Copy}
use Rattle.xt_sheets.specs.declared.instrs.Instr.TheOpen.{CopyOf, Sequence, If, Choose, ForEach}
use Rattle.xt_sheets.specs.declared.instrs.Instr.TheOpen.{ForEachGroup, PerformSort, Variable}
use Rattle.xt_sheets.specs.declared.instrs.Instr.TheOpen.{Apply, ApplyImports, NextMatch}
use Rattle.xt_sheets.specs.declared.instrs.Instr.TheOpen.{CallTemplate, Select, Body, EmptyText}
use Rattle.xt_sheets.specs.declared.instrs.Instr.TheOpen.{EmptyList, Required}
use Rattle.xt_sheets.specs.Layers.{Kinds, Steps, InstrLayer, ValueLayer}
use Rattle.xt_sheets.specs.Layers.{instr_gives, value_gives, bound_gives, when_gives}
use Rattle.name_rules.specs.Scopes.{names_differ}
use Rattle.sheet_closure.specs.StandingParts.Calls.{expr_stands}
use Rattle.sheet_closure.specs.StandingParts.Values.{if_expr_stands, template_stands, if_template_stands}
use Rattle.sheet_closure.specs.StandingParts.Values.{attribute_stands, sort_stands, grouping_stands}

-- whether a part may be within an xsl:for-each-group, and outside of one
abbrev pub Stands : Type 0
Stands = Bool → Bool

-- what is told of a value: whether there is none, since a parameter is required, and where it may
-- stand
pub record ValueStands : Type 0 where
  pub required : Bool
  pub stands : Stands

pub record BoundStands : Type 0 where
  pub name : ExprName
  pub value : ValueStands

abbrev pub standings : Kinds
standings = record {
  Instrs = Stands;
  Values = ValueStands;
  Bounds = BoundStands;
  Whens = Stands;
}

abbrev pub all_stand : List Stands → Stands
all_stand [] grouped = true
all_stand (s ∷ rest) grouped = s grouped && all_stand rest grouped

-- `select` and content do not stand beside each other
abbrev pub is_one_source : {A B : Type 0} → Option A → List B → Bool
is_one_source select body = is_none select || (length body == 0)

abbrev pub bound_names : List BoundStands → List ExprName
bound_names [] = []
bound_names (b ∷ bs) = b.name ∷ bound_names bs

abbrev pub values_stand : List BoundStands → Stands
values_stand [] grouped = true
values_stand (b ∷ bs) grouped = b.value.stands grouped && values_stand bs grouped

-- a variable, and a parameter that is passed, have a value
abbrev pub is_given : BoundStands → Stands
is_given b grouped = not b.value.required && b.value.stands grouped

abbrev pub all_given : List BoundStands → Stands
all_given [] grouped = true
all_given (b ∷ bs) grouped = is_given b grouped && all_given bs grouped

-- no two parameters that an instruction passes have one name (10.1.1)
abbrev pub passed_stand : List BoundStands → Stands
passed_stand bs grouped = names_differ (bound_names bs) && all_given bs grouped

abbrev pub instr_stand : InstrLayer Expr Pattern standings → Stands
instr_stand (Chars text) grouped = true
instr_stand (ValueOf select body separator) grouped =
    is_one_source select body
    && (if_expr_stands grouped select
    && (if_template_stands grouped separator && all_stand body grouped))
instr_stand (Literal name attrs body) grouped =
    list_all (attribute_stands grouped) attrs && all_stand body grouped
instr_stand (Element name body) grouped =
    template_stands grouped name.text && all_stand body grouped
instr_stand (Attribute name select body separator) grouped =
    is_one_source select body
    && (template_stands grouped name.text
    && (if_expr_stands grouped select
    && (if_template_stands grouped separator && all_stand body grouped)))
instr_stand (Comment select body) grouped =
    is_one_source select body && (if_expr_stands grouped select && all_stand body grouped)
instr_stand (Pi name select body) grouped =
    is_one_source select body
    && (template_stands grouped name
    && (if_expr_stands grouped select && all_stand body grouped))
instr_stand (Document body) grouped = all_stand body grouped
instr_stand (Copy body) grouped = all_stand body grouped
instr_stand (CopyOf e) grouped = expr_stands grouped e
instr_stand (Sequence e) grouped = expr_stands grouped e
instr_stand (If condition body) grouped = expr_stands grouped condition && all_stand body grouped
instr_stand (Choose whens other) grouped = all_stand whens grouped && all_stand other grouped
instr_stand (ForEach select sorts body) grouped =
    expr_stands grouped select
    && (list_all (sort_stands grouped) sorts && all_stand body grouped)
instr_stand (ForEachGroup select grouping sorts body) grouped =
    expr_stands grouped select
    && (grouping_stands grouped grouping
    && (list_all (sort_stands true) sorts && all_stand body true))
instr_stand (PerformSort select sorts body) grouped =
    is_one_source select body
    && (if_expr_stands grouped select
    && (list_all (sort_stands grouped) sorts && all_stand body grouped))
instr_stand (Variable bound) grouped = is_given bound grouped
instr_stand (Apply select mode sorts params) grouped =
    if_expr_stands grouped select
    && (list_all (sort_stands grouped) sorts && passed_stand params grouped)
instr_stand (ApplyImports params) grouped = passed_stand params grouped
instr_stand (NextMatch params) grouped = passed_stand params grouped
instr_stand (CallTemplate place params) grouped = passed_stand params grouped

abbrev pub value_stand : ValueLayer Expr Pattern standings → ValueStands
value_stand (Select e) = record { required = false; stands = λ grouped. expr_stands grouped e }
value_stand (Body body) = record { required = false; stands = all_stand body }
value_stand EmptyText = record { required = false; stands = λ grouped. true }
value_stand EmptyList = record { required = false; stands = λ grouped. true }
value_stand Required = record { required = true; stands = λ grouped. true }

abbrev pub stand_steps : Steps Expr Pattern standings
stand_steps = record {
  of_instr = instr_stand;
  of_value = value_stand;
  of_bound = λ b. record { name = b.name; value = b.value };
  of_when = λ w. λ grouped. expr_stands grouped w.test && all_stand w.body grouped;
}

abbrev pub instr_stands : Instr Expr Pattern → Stands
instr_stands = instr_gives standings stand_steps

abbrev pub value_stands : ValueOfBound Expr Pattern → ValueStands
value_stands = value_gives standings stand_steps

abbrev pub bound_stands : Bound Expr Pattern → BoundStands
bound_stands = bound_gives standings stand_steps

abbrev pub when_stands : When Expr Pattern → Stands
when_stands = when_gives standings stand_steps

-- the instructions of a sequence constructor
abbrev pub body_stands : List (Instr Expr Pattern) → Stands
body_stands body = all_stand (map instr_stands body)

-- the parameters of a template or a function: no two have one name, and they may be required (10.1.1)
abbrev pub params_stand : List (Bound Expr Pattern) → Stands
params_stand params grouped =
    names_differ (bound_names (map bound_stands params))
    && values_stand (map bound_stands params) grouped
