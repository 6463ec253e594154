-- The functions of keys: the nodes of the tree of a node that have one of the values (XSLT 2.0, 16.3).
use Rattle.std.specs.Prelude.{ℕ, suc, map, List, [], ◌∷◌, filter, codes}
use Rattle.std.specs.Str.{bytes_eq}
use Rattle.xt_syntax.specs.declared.queries.QueryFunction.{QueryFunction}
use Rattle.xt_sheets.specs.declared.sheets.KeyRule.{KeyRule}
use Rattle.carried_exprs.specs.Sights.{focused}
use Rattle.carried_exprs.specs.Carried.{carried}
use Rattle.key_functions.specs.KeyBody.{KeyParts, key_function}
use Rattle.translated_forms.specs.Names.{numbered}
use Rattle.translated_forms.specs.Places.{Table, use_setting}
use Rattle.translation.specs.Tables.{braced, key_names}

-- the test of the pattern, and the value of `use`
abbrev pub key_parts : Table → KeyRule → KeyParts
key_parts t k = record {
  test = t.matches k.pattern;
  value = carried (use_setting t) k.key focused;
}

abbrev pub key_function_of : Table → ℕ → List KeyRule → QueryFunction
key_function_of t n rules = key_function (numbered (codes "key") n) (map (key_parts t) rules)

abbrev pub rules_named : List KeyRule → List ℕ → List KeyRule
rules_named keys text = filter (λ k. bytes_eq (braced k.name) text) keys

abbrev pub functions_from : Table → List KeyRule → ℕ → List (List ℕ) → List QueryFunction
functions_from t keys n [] = []
functions_from t keys n (name ∷ names) =
    key_function_of t n (rules_named keys name) ∷ functions_from t keys (suc n) names

abbrev pub key_functions : Table → List KeyRule → List QueryFunction
key_functions t keys = functions_from t keys 1 (key_names keys)
