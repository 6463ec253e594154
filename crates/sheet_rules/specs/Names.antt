-- What a stylesheet declares by names (XSLT 2.0, 9.5, 10.1, 10.3 and 16.3).
use Rattle.std.specs.Prelude.{ℕ, List, [], ◌∷◌, ◌++◌, map, length, Option, Some, None, if◌then◌else◌}
use Rattle.xt_names.specs.declared.names.ExprName.{ExprName}
use Rattle.xt_names.specs.declared.codes.Code.{Code}
use Rattle.xt_names.specs.declared.codes.Code.TheVariants.{SheetStatic}
use Rattle.xt_names.specs.declared.codes.SheetStaticCode.TheVariants.{XTSE0650}
use Rattle.name_rules.specs.declared.functions.Signature.{Signature}
use Rattle.name_rules.specs.Scopes.{has_name, with_names, with_function}
use Rattle.sheet_modules.specs.declared.modules.Part.{Part}
use Rattle.sheet_modules.specs.declared.modules.Part.TheVariants as part
use Rattle.sheet_modules.specs.declared.modules.KeyPart.{KeyPart}
use Rattle.sheet_rules.specs.declared.sheet_declarations.lists.Declaration.{Declaration}
use Rattle.sheet_rules.specs.SheetDeclarations.Counts.{global_name}
use Rattle.sheet_expressions.specs.Keys.{braced}
use Rattle.sheet_expressions.specs.declared.sheet_names.names.Names.{Names}
use Rattle.sheet_expressions.specs.SheetNames.Names.{as_name}

abbrev pub if_name : Option ExprName → List ExprName → List ExprName
if_name None names = names
if_name (Some name) names = name ∷ names

module _ {E P : Type 0} where
  abbrev pub with_global : Part E P → List ExprName → List ExprName
  with_global (part.Global g) names = global_name g.bound ∷ names
  with_global (part.Template t rules) names = names
  with_global (part.Function f) names = names
  with_global (part.Key keys) names = names
  with_global (part.Space rules) names = names
  with_global (part.Output omit) names = names
  with_global part.Ignored names = names
  with_global part.Linked names = names

  -- the names of the global variables and parameters
  abbrev pub global_names : List (Declaration E P) → List ExprName
  global_names [] = []
  global_names (d ∷ ds) = with_global d.part (global_names ds)

  abbrev pub with_template : Part E P → List ExprName → List ExprName
  with_template (part.Template t rules) names = if_name t.name names
  with_template (part.Global g) names = names
  with_template (part.Function f) names = names
  with_template (part.Key keys) names = names
  with_template (part.Space rules) names = names
  with_template (part.Output omit) names = names
  with_template part.Ignored names = names
  with_template part.Linked names = names

  -- the names of the templates
  abbrev pub template_names : List (Declaration E P) → List ExprName
  template_names [] = []
  template_names (d ∷ ds) = with_template d.part (template_names ds)

  abbrev pub with_function_of : Part E P → List Signature → List Signature
  with_function_of (part.Function f) known = with_function known f.name (length f.params)
  with_function_of (part.Global g) known = known
  with_function_of (part.Template t rules) known = known
  with_function_of (part.Key keys) known = known
  with_function_of (part.Space rules) known = known
  with_function_of (part.Output omit) known = known
  with_function_of part.Ignored known = known
  with_function_of part.Linked known = known

  -- these functions and those that are declared, each once
  abbrev pub with_functions : List Signature → List (Declaration E P) → List Signature
  with_functions known [] = known
  with_functions known (d ∷ ds) = with_functions (with_function_of d.part known) ds

  abbrev pub key_name : KeyPart E P → ExprName
  key_name k = as_name (braced k.name)

  abbrev pub with_keys_of : Part E P → List ExprName → List ExprName
  with_keys_of (part.Key keys) known = with_names known (map key_name keys)
  with_keys_of (part.Global g) known = known
  with_keys_of (part.Template t rules) known = known
  with_keys_of (part.Function f) known = known
  with_keys_of (part.Space rules) known = known
  with_keys_of (part.Output omit) known = known
  with_keys_of part.Ignored known = known
  with_keys_of part.Linked known = known

  -- these names of keys and those that are declared, each once
  abbrev pub with_keys : List ExprName → List (Declaration E P) → List ExprName
  with_keys known [] = known
  with_keys known (d ∷ ds) = with_keys (with_keys_of d.part known) ds

  abbrev pub names_of : List (Declaration E P) → ℕ → Names
  names_of ds templates = record {
    variables = with_names [] (global_names ds);
    functions = with_functions [] ds;
    keys = with_keys [] ds;
    templates = templates;
  }

-- a template is called by a name that none of these is
abbrev pub missing_code : List ExprName → ExprName → List Code
missing_code declared name = if has_name declared name then [] else SheetStatic XTSE0650 ∷ []

abbrev pub missing_codes : List ExprName → List ExprName → List Code
missing_codes declared [] = []
missing_codes declared (n ∷ ns) = missing_code declared n ++ missing_codes declared ns
