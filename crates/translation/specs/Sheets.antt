-- The query of a stylesheet: on each document it gives the result tree.
use Rattle.std.specs.Prelude.{map, List, [], ◌∷◌, ◌++◌, flat_map}
use Rattle.xt_names.specs.declared.names.Binding.{Binding}
use Rattle.xt_syntax.specs.declared.exprs.Expr.{Expr}
use Rattle.xt_syntax.specs.declared.exprs.Clause.TheViews.{roll-Expr}
use Rattle.xt_syntax.specs.declared.exprs.Clause.TheOpen.{Context}
use Rattle.xt_syntax.specs.declared.queries.Query.{Query}
use Rattle.xt_syntax.specs.declared.queries.QueryFunction.{QueryFunction}
use Rattle.xt_syntax.specs.declared.queries.QueryVar.{QueryVar}
use Rattle.xt_sheets.specs.declared.sheets.Sheet.{Sheet}
use Rattle.query_helpers.specs.CopyBody.{copy_function}
use Rattle.query_helpers.specs.LastBody.{last_function}
use Rattle.query_helpers.specs.NodesBody.{nodes_function}
use Rattle.query_helpers.specs.SimpleBody.{simple_function}
use Rattle.translated_forms.specs.Names.{mode_function}
use Rattle.translated_forms.specs.Forms.{number}
use Rattle.translated_forms.specs.Dispatch.{called}
use Rattle.translated_forms.specs.Making.{document_of}
use Rattle.translated_forms.specs.Params.{none_from}
use Rattle.translated_forms.specs.Places.{Table}
use Rattle.translation.specs.Globals.{variable_of_global}
use Rattle.translation.specs.Keys.{key_functions}
use Rattle.translation.specs.Prefixes.{with_made, with_uris}
use Rattle.translation.specs.Rules.{all_rule_functions}
use Rattle.translation.specs.Tables.{prefixes_kept, table_of}
use Rattle.translation.specs.Templates.{named_functions, sheet_function}
use Rattle.translation.specs.Uris.{Uris, uris_in, uris_of_function, uris_of_variable, uris_of_rule}

abbrev pub helper_functions : List QueryFunction
helper_functions = nodes_function ∷ last_function ∷ simple_function ∷ copy_function ∷ []

-- rules in their modes, named templates, keys, helpers, and the functions of the stylesheet
abbrev pub functions_of : Table → Sheet → List QueryFunction
functions_of t s =
    all_rule_functions t s
    ++ (named_functions t s.templates 1
    ++ (key_functions t s.keys ++ (helper_functions ++ map (sheet_function t) s.functions)))

abbrev pub variables_of : Table → Sheet → List QueryVar
variables_of t s = map (variable_of_global t) s.globals

-- templates are applied to the document node in the default mode, without parameters
abbrev pub start : Table → Expr
start t =
    called (mode_function 0)
    (roll-Expr Context ∷ number 1 ∷ number 1 ∷ none_from t.params)

abbrev pub body_of : Table → Expr
body_of t = document_of (start t)

-- the uris of all names
abbrev pub uris_of : Table → Sheet → Uris
uris_of t s =
    flat_map uris_of_variable (variables_of t s)
    ++ (flat_map uris_of_function (functions_of t s)
    ++ (uris_in (body_of t) ++ flat_map uris_of_rule s.space))

abbrev pub prefixes_of : Table → Sheet → List Binding
prefixes_of t s = with_uris (with_made (prefixes_kept s)) (uris_of t s)

abbrev pub query_with : Table → Sheet → Query
query_with t s = record {
  prefixes = prefixes_of t s;
  element_default = [];
  variables = variables_of t s;
  functions = functions_of t s;
  body = body_of t;
  space = s.space;
  omit = s.omit;
}

unfoldable pub query_of_sheet : Sheet → Query
query_of_sheet s = query_with (table_of s) s
