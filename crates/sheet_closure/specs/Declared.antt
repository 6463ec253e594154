-- Names that a stylesheet uses and declares (XPath 2.0, 3.1.2 and 3.1.5; XSLT 2.0, 6.5, 9.5, 10.1, 10.3
-- and 16.3).
use Rattle.std.specs.Prelude.{List, [], ◌∷◌, map, length, Bool, true, false, not, ◌&&◌, ◌==◌, nat_lt}
use Rattle.std.specs.Prelude.{Option, Some, None, is_none, is_some, slice_get}
use Rattle.std.specs.List.{list_all}
use Rattle.xt_names.specs.Allowed.{is_empty_text}
use Rattle.xt_names.specs.declared.names.ExprName.{ExprName}
use Rattle.xt_sheets.specs.declared.values.ModeUse.{ModeUse}
use Rattle.xt_sheets.specs.declared.values.ModeUse.TheVariants.{Number, Current}
use Rattle.xt_sheets.specs.declared.sheets.Global.{Global}
use Rattle.xt_sheets.specs.declared.sheets.Template.{Template}
use Rattle.xt_sheets.specs.declared.sheets.SheetFunction.{SheetFunction}
use Rattle.xt_sheets.specs.declared.sheets.KeyRule.{KeyRule}
use Rattle.xt_sheets.specs.declared.sheets.Sheet.{Sheet}
use Rattle.name_rules.specs.declared.functions.Signature.{Signature}
use Rattle.name_rules.specs.Scopes.{with_names, names_differ, has_function, with_function}
use Rattle.sheet_expressions.specs.Keys.{braced}
use Rattle.sheet_uses.specs.declared.uses.Use.{Use}
use Rattle.sheet_uses.specs.declared.uses.Use.TheVariants as use_of
use Rattle.sheet_expressions.specs.declared.sheet_names.names.Names.{Names}
use Rattle.sheet_expressions.specs.SheetNames.Names.{as_name}
use Rattle.sheet_expressions.specs.SheetNames.Uses.{broken_use}
use Rattle.sheet_uses.specs.KeyCalls.Called.{called_codes}
use Rattle.sheet_closure.specs.Uses.{uses_of, key_uses_of}

abbrev pub global_name : Global → ExprName
global_name g = g.bound.name

abbrev pub with_functions : List Signature → List SheetFunction → List Signature
with_functions declared [] = declared
with_functions declared (f ∷ fs) =
    with_functions (with_function declared f.name (length f.params)) fs

-- no function has name and number of parameters of one in the list or of one that stands before
abbrev pub are_new_functions : List Signature → List SheetFunction → Bool
are_new_functions declared [] = true
are_new_functions declared (f ∷ fs) =
    not (has_function declared f.name (length f.params))
    && are_new_functions (with_function declared f.name (length f.params)) fs

-- no two globals have one name, and no two functions one name and number of parameters
unfoldable pub has_different_names : Sheet → Bool
has_different_names s =
    names_differ (map global_name s.globals) && are_new_functions [] s.functions

unfoldable pub has_uri : SheetFunction → Bool
has_uri f = not (is_empty_text f.name.uri)

abbrev pub key_name : KeyRule → ExprName
key_name k = as_name (braced k.name)

-- templates are looked for by their places
abbrev pub names_of : Sheet → Names
names_of s = record {
  variables = with_names [] (map global_name s.globals);
  functions = with_functions [] s.functions;
  keys = with_names [] (map key_name s.keys);
  templates = 0;
}

-- the template at the place, if there is one, has a name
unfoldable pub is_named : Option Template → Bool
is_named None = false
is_named (Some t) = is_some t.name

unfoldable pub is_mode : List ExprName → ModeUse → Bool
is_mode modes (Number mode) = nat_lt mode (length modes)
is_mode modes Current = true

-- what is used is declared
unfoldable pub is_declared : Names → Sheet → Use → Bool
is_declared names s (use_of.Variable name) = is_none (broken_use names (use_of.Variable name))
is_declared names s (use_of.Call name arity literal) =
    is_none (broken_use names (use_of.Call name arity literal))
is_declared names s (use_of.Template place passed) = is_named (slice_get s.templates place)
is_declared names s (use_of.Apply mode) = is_mode s.modes mode

-- Each variable, function, named template, key and mode that is used is bound there or declared.
abbrev pub all_declared : Names → Sheet → Bool
all_declared names s = list_all (is_declared names s) (uses_of s)

-- no grouping key, and no `use` of a key, calls a function of the stylesheet
abbrev pub keys_call_none : List Signature → Sheet → Bool
keys_call_none functions s = length (called_codes functions (key_uses_of s)) == 0

unfoldable pub keeps_names : Sheet → Bool
keeps_names s =
    all_declared (names_of s) s && keys_call_none (with_functions [] s.functions) s
