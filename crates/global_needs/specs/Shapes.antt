-- The places of the graph of a stylesheet: globals, functions, templates as they are called, templates
-- as they are rules, modes, and globals as they are named.
use Rattle.std.specs.Prelude.{List, [], ◌∷◌, ◌+◌, map, length}
use Rattle.name_rules.specs.declared.functions.Signature.{Signature}
use Rattle.name_rules.specs.Scopes.{with_function, signature}
use Rattle.xt_sheets.specs.declared.sheets.Sheet.{Sheet}
use Rattle.xt_sheets.specs.declared.sheets.Global.{Global}
use Rattle.xt_sheets.specs.declared.sheets.SheetFunction.{SheetFunction}
use Rattle.global_needs.specs.declared.shapes.Shape.{Shape}

abbrev pub with_all : List Signature → List Signature → List Signature
with_all table [] = table
with_all table (s ∷ ss) = with_all (with_function table s.name s.arity) ss

abbrev pub variable_signature : Global → Signature
variable_signature g = signature g.bound.name 0

abbrev pub function_signature : SheetFunction → Signature
function_signature f = signature f.name (length f.params)

-- the names of the globals, and of the functions
abbrev pub variables_of : List Global → List Signature
variables_of globals = with_all [] (map variable_signature globals)

abbrev pub called_of : List SheetFunction → List Signature
called_of functions = with_all [] (map function_signature functions)

abbrev pub shape_of : Sheet → Shape
shape_of s =
    let functions_at = length s.globals in
    let templates_at = functions_at + length s.functions in
    let rules_at = templates_at + length s.templates in
    let modes_at = rules_at + length s.templates in
    record {
      variables = variables_of s.globals;
      called = called_of s.functions;
      globals = length s.globals;
      functions = length s.functions;
      templates = length s.templates;
      modes = length s.modes;
      functions_at = functions_at;
      templates_at = templates_at;
      rules_at = rules_at;
      modes_at = modes_at;
      globals_at = modes_at + length s.modes;
    }
