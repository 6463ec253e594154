-- What the instructions of a stylesheet have: the parameters that are passed, the names of nodes,
-- and whether next-match and apply-imports are there.
use Rattle.std.specs.Prelude.{ℕ, map, List, [], ◌∷◌, ◌++◌, Bool, true, false, ◌||◌}
use Rattle.std.specs.Prelude.{Option, option_and_then, option_to_list}
use Rattle.xt_names.specs.declared.names.Name.{Name}
use Rattle.xt_syntax.specs.declared.exprs.Expr.{Expr}
use Rattle.xt_syntax.specs.declared.patterns.Pattern.{Pattern}
use Rattle.xt_sheets.specs.declared.values.AvtName.{AvtName}
use Rattle.xt_sheets.specs.declared.values.LiteralAttr.{LiteralAttr}
use Rattle.xt_sheets.specs.declared.instrs.Instr.{Instr}
use Rattle.xt_sheets.specs.declared.instrs.Bound.{Bound}
use Rattle.xt_sheets.specs.declared.instrs.Instr.TheOpen.{Chars, ValueOf, Literal, Element}
use Rattle.xt_sheets.specs.declared.instrs.Instr.TheOpen.{Attribute, Comment, Pi, Document, Copy}
use Rattle.xt_sheets.specs.declared.instrs.Instr.TheOpen.{CopyOf, Sequence, If, Choose, ForEach}
use Rattle.xt_sheets.specs.declared.instrs.Instr.TheOpen.{ForEachGroup, PerformSort, Variable}
use Rattle.xt_sheets.specs.declared.instrs.Instr.TheOpen.{Apply, ApplyImports, NextMatch}
use Rattle.xt_sheets.specs.declared.instrs.Instr.TheOpen.{CallTemplate, Select, Body, EmptyText}
use Rattle.xt_sheets.specs.declared.instrs.Instr.TheOpen.{EmptyList, Required}
use Rattle.xt_sheets.specs.Layers.{Kinds, Steps, InstrLayer, ValueLayer}
use Rattle.xt_sheets.specs.Layers.{instr_gives, bound_gives}
use Rattle.translated_forms.specs.NodeNames.{element_spelled, attribute_spelled}
use Rattle.translated_forms.specs.Places.{Param}
use Rattle.translated_forms.specs.Texts.{Template, fixed_text}

pub record Found : Type 0 where
  pub params : List Param
  pub names : List Name
  pub next : Bool
  pub imports : Bool

abbrev pub nothing_found : Found
nothing_found = record { params = []; names = []; next = false; imports = false }

abbrev pub both_found : Found → Found → Found
both_found a b = record {
  params = a.params ++ b.params;
  names = a.names ++ b.names;
  next = a.next || b.next;
  imports = a.imports || b.imports;
}

abbrev pub all_found : List Found → Found
all_found [] = nothing_found
all_found (f ∷ fs) = both_found f (all_found fs)

abbrev pub names_found : List Name → Found
names_found names = record nothing_found { names = names }

-- a parameter with what its value has
pub record BoundFound : Type 0 where
  pub param : Param
  pub found : Found

abbrev pub passed_one : BoundFound → Found
passed_one b = record b.found { params = b.param ∷ b.found.params }

abbrev pub passed_found : List BoundFound → Found
passed_found bs = all_found (map passed_one bs)

abbrev pub founds : Kinds
founds = record { Instrs = Found; Values = Found; Bounds = BoundFound; Whens = Found }

-- the name of a text that is fixed
abbrev pub fixed_name : (List ℕ → Option Name) → Template → List Name
fixed_name spells text = option_to_list (option_and_then spells (fixed_text text))

abbrev pub element_names : AvtName Expr → List Name
element_names n = fixed_name (element_spelled n.scope n.default_uri) n.text

abbrev pub attribute_names : AvtName Expr → List Name
attribute_names n = fixed_name (attribute_spelled n.scope) n.text

abbrev pub name_of : LiteralAttr Expr → Name
name_of a = a.name

abbrev pub instr_found : InstrLayer Expr Pattern founds → Found
instr_found (Chars text) = nothing_found
instr_found (ValueOf select body separator) = all_found body
instr_found (Literal name attributes body) =
    both_found (names_found (name ∷ map name_of attributes)) (all_found body)
instr_found (Element name body) = both_found (names_found (element_names name)) (all_found body)
instr_found (Attribute name select body separator) =
    both_found (names_found (attribute_names name)) (all_found body)
instr_found (Comment select body) = all_found body
instr_found (Pi name select body) = all_found body
instr_found (Document body) = all_found body
instr_found (Copy body) = all_found body
instr_found (CopyOf e) = nothing_found
instr_found (Sequence e) = nothing_found
instr_found (If condition body) = all_found body
instr_found (Choose whens other) = both_found (all_found whens) (all_found other)
instr_found (ForEach select sorts body) = all_found body
instr_found (ForEachGroup select grouping sorts body) = all_found body
instr_found (PerformSort select sorts body) = all_found body
instr_found (Variable bound) = bound.found
instr_found (Apply select mode sorts given) = passed_found given
instr_found (ApplyImports given) = record (passed_found given) { imports = true }
instr_found (NextMatch given) = record (passed_found given) { next = true }
instr_found (CallTemplate place given) = passed_found given

abbrev pub value_found : ValueLayer Expr Pattern founds → Found
value_found (Select e) = nothing_found
value_found (Body body) = all_found body
value_found EmptyText = nothing_found
value_found EmptyList = nothing_found
value_found Required = nothing_found

abbrev pub found_steps : Steps Expr Pattern founds
found_steps = record {
  of_instr = instr_found;
  of_value = value_found;
  of_bound = λ b. record {
    param = record { tunnel = b.tunnel; name = b.name };
    found = b.value;
  };
  of_when = λ w. all_found w.body;
}

abbrev pub found_in : Instr Expr Pattern → Found
found_in = instr_gives founds found_steps

abbrev pub found_in_bound : Bound Expr Pattern → BoundFound
found_in_bound = bound_gives founds found_steps

-- in a variable or parameter, and in a sequence constructor
abbrev pub found_in_value : Bound Expr Pattern → Found
found_in_value b = (found_in_bound b).found

abbrev pub found_in_body : List (Instr Expr Pattern) → Found
found_in_body body = all_found (map found_in body)

abbrev pub found_in_values : List (Bound Expr Pattern) → Found
found_in_values bounds = all_found (map found_in_value bounds)

-- in a template or a function
abbrev pub found_in_callee : List (Bound Expr Pattern) → List (Instr Expr Pattern) → Found
found_in_callee params body = both_found (found_in_values params) (found_in_body body)
