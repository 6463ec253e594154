-- What is fixed for a whole stylesheet.
use Rattle.std.specs.Prelude.{ℕ, zero, suc, ◌+◌, map, List, [], ◌∷◌, ◌++◌, not, codes, filter}
use Rattle.std.specs.Prelude.{Option, Some, None, if◌then◌else◌}
use Rattle.std.specs.List.{list_any}
use Rattle.std.specs.Str.{bytes_eq}
use Rattle.xt_names.specs.Allowed.{is_empty_text}
use Rattle.xt_names.specs.declared.names.Binding.{Binding}
use Rattle.xt_names.specs.declared.names.ExprName.{ExprName}
use Rattle.xt_sheets.specs.declared.sheets.Global.{Global}
use Rattle.xt_sheets.specs.declared.sheets.KeyRule.{KeyRule}
use Rattle.xt_sheets.specs.declared.sheets.Sheet.{Sheet}
use Rattle.xt_sheets.specs.declared.sheets.SheetFunction.{SheetFunction}
use Rattle.xt_sheets.specs.declared.sheets.Template.{Template}
use Rattle.translated_forms.specs.Names.{key_function}
use Rattle.translated_forms.specs.Places.{Param, Table}
use Rattle.translated_forms.specs.Params.{same_param}
use Rattle.translation.specs.Found.{Found, all_found, both_found, found_in_bound}
use Rattle.translation.specs.Found.{found_in_value, found_in_callee}
use Rattle.translation.specs.PatternTests.{match_test}
use Rattle.translation.specs.Prefixes.{predeclared, kept_prefixes}

-- the instructions of all parts
abbrev pub found_in_template : Template → Found
found_in_template t = found_in_callee t.params t.body

abbrev pub found_in_function : SheetFunction → Found
found_in_function f = found_in_callee f.params f.body

abbrev pub found_in_global : Global → Found
found_in_global g = found_in_value g.bound

abbrev pub found_in_sheet : Sheet → Found
found_in_sheet s =
    both_found (all_found (map found_in_template s.templates))
    (both_found (all_found (map found_in_function s.functions))
    (all_found (map found_in_global s.globals)))

-- the parameters of templates, and those that are passed; ordinary ones come first, each once
abbrev pub declared_params : List Template → List Param
declared_params [] = []
declared_params (t ∷ ts) =
    map (λ b. (found_in_bound b).param) t.params ++ declared_params ts

abbrev pub with_param : List Param → Param → List Param
with_param ps p = if list_any (same_param p) ps then ps else ps ++ p ∷ []

abbrev pub with_params : List Param → List Param → List Param
with_params ps [] = ps
with_params ps (p ∷ more) = with_params (with_param ps p) more

abbrev pub ordinary_first : List Param → List Param
ordinary_first ps = filter (λ p. not p.tunnel) ps ++ filter (λ p. p.tunnel) ps

abbrev pub params_of : Sheet → List Param
params_of s =
    with_params [] (ordinary_first (declared_params s.templates ++ (found_in_sheet s).params))

-- the prefixes that names of nodes keep
abbrev pub prefixes_kept : Sheet → List Binding
prefixes_kept s = kept_prefixes [] (found_in_sheet s).names

-- a key is named by the text of its name, in which the uri is in braces; each name once
abbrev pub braced : ExprName → List ℕ
braced name =
    if is_empty_text name.uri then name.local
    else codes "{" ++ (name.uri ++ (codes "}" ++ name.local))

abbrev pub with_text : List (List ℕ) → List ℕ → List (List ℕ)
with_text texts t = if list_any (bytes_eq t) texts then texts else texts ++ t ∷ []

abbrev pub names_from : List (List ℕ) → List KeyRule → List (List ℕ)
names_from texts [] = texts
names_from texts (k ∷ ks) = names_from (with_text texts (braced k.name)) ks

abbrev pub key_names : List KeyRule → List (List ℕ)
key_names keys = names_from [] keys

abbrev pub position_from : ℕ → List (List ℕ) → List ℕ → ℕ
position_from n [] text = n
position_from n (t ∷ ts) text = if bytes_eq t text then n else position_from (suc n) ts text

abbrev pub function_of_key : List KeyRule → List ℕ → ExprName
function_of_key keys text = key_function (position_from 1 (key_names keys) text)

-- the number of a named template among those that have a name
abbrev pub one_if_some : Option ExprName → ℕ
one_if_some None = 0
one_if_some (Some name) = 1

abbrev pub one_if_named : Template → ℕ
one_if_named t = one_if_some t.name

abbrev pub named_up_to : List Template → ℕ → ℕ
named_up_to [] place = 0
named_up_to (t ∷ ts) zero = one_if_named t
named_up_to (t ∷ ts) (suc place) = one_if_named t + named_up_to ts place

abbrev pub table_of : Sheet → Table
table_of s = record {
  params = params_of s;
  prefixes = prefixes_kept s ++ predeclared;
  keys = function_of_key s.keys;
  named = named_up_to s.templates;
  matches = match_test;
}
