-- Which declarations count: those that none further behind replaces (XSLT 2.0, 9.5, 10.1 and 10.3).
use Rattle.std.specs.Prelude.{List, [], ◌∷◌, length, Bool, false, not, Option, Some, None}
use Rattle.std.specs.List.{list_any}
use Rattle.xt_names.specs.declared.names.ExprName.{ExprName}
use Rattle.name_rules.specs.declared.functions.Signature.{Signature}
use Rattle.name_rules.specs.Scopes.{has_function, with_function, same_signature, signature}
use Rattle.xt_sheets.specs.declared.instrs.Instr.TheViews.{out-Bound}
use Rattle.xt_sheets.specs.declared.instrs.Bound.{Bound}
use Rattle.sheet_modules.specs.declared.modules.Part.{Part}
use Rattle.sheet_modules.specs.declared.modules.Part.TheVariants as part
use Rattle.sheet_rules.specs.declared.sheet_declarations.lists.Declaration.{Declaration}
use Rattle.sheet_rules.specs.declared.sheet_declarations.counts.Seen.{Seen}

-- what a declaration declares by a name: globals, functions and templates are told apart, and
-- functions by their number of parameters too
pub data Declared : Type 0 where
  a_global : Signature → Declared
  a_function : Signature → Declared
  a_template : Signature → Declared
  nothing : Declared

abbrev pub template_of : Option ExprName → Declared
template_of None = nothing
template_of (Some name) = a_template (signature name 0)

module _ {E P : Type 0} where
  abbrev pub global_name : Bound E P → ExprName
  global_name b = (out-Bound E P b).name

  abbrev pub declared_by : Part E P → Declared
  declared_by (part.Global g) = a_global (signature (global_name g.bound) 0)
  declared_by (part.Template t rules) = template_of t.name
  declared_by (part.Function f) = a_function (signature f.name (length f.params))
  declared_by (part.Key keys) = nothing
  declared_by (part.Space rules) = nothing
  declared_by (part.Output omit) = nothing
  declared_by part.Ignored = nothing
  declared_by part.Linked = nothing

-- the second replaces the first
abbrev pub replaces : Declared → Declared → Bool
replaces (a_global s) (a_global t) = same_signature s t
replaces (a_function s) (a_function t) = same_signature s t
replaces (a_template s) (a_template t) = same_signature s t
replaces (a_global s) (a_function t) = false
replaces (a_global s) (a_template t) = false
replaces (a_global s) nothing = false
replaces (a_function s) (a_global t) = false
replaces (a_function s) (a_template t) = false
replaces (a_function s) nothing = false
replaces (a_template s) (a_global t) = false
replaces (a_template s) (a_function t) = false
replaces (a_template s) nothing = false
replaces nothing t = false

module _ {E P : Type 0} where
  -- some of them replaces it
  abbrev pub is_replaced : Declaration E P → List (Declaration E P) → Bool
  is_replaced d ds = list_any (λ later. replaces (declared_by d.part) (declared_by later.part)) ds

  -- for each declaration, whether it counts
  abbrev pub counted_of : List (Declaration E P) → List Bool
  counted_of [] = []
  counted_of (d ∷ ds) = not (is_replaced d ds) ∷ counted_of ds

-- the names that are declared, and those with another
abbrev pub has_declared : Seen → Declared → Bool
has_declared seen (a_global s) = has_function seen.globals s.name s.arity
has_declared seen (a_function s) = has_function seen.functions s.name s.arity
has_declared seen (a_template s) = has_function seen.templates s.name s.arity
has_declared seen nothing = false

abbrev pub with_declared : Seen → Declared → Seen
with_declared seen (a_global s) = record seen { globals = with_function seen.globals s.name s.arity }
with_declared seen (a_function s) =
    record seen { functions = with_function seen.functions s.name s.arity }
with_declared seen (a_template s) =
    record seen { templates = with_function seen.templates s.name s.arity }
with_declared seen nothing = seen

-- the names that are declared by these, from the last to the first
abbrev pub seen_of : {E P : Type 0} → List (Declaration E P) → Seen
seen_of [] = record { globals = []; functions = []; templates = [] }
seen_of (d ∷ ds) = with_declared (seen_of ds) (declared_by d.part)
