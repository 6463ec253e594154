-- Queries that name nothing but what they declare (XQuery 1.0, 2.2.4 and 4).
use Rattle.std.specs.Prelude.{List, [], ◌∷◌, map, length, Bool, true, not, ◌&&◌, Option, Some, None, is_none}
use Rattle.std.specs.List.{list_all}
use Rattle.xt_names.specs.declared.names.ExprName.{ExprName}
use Rattle.xt_types.specs.Regular.{is_regular_type}
use Rattle.xt_types.specs.declared.types.SeqType.{SeqType}
use Rattle.xt_forms.specs.Regular.{is_regular_expr}
use Rattle.xt_syntax.specs.declared.exprs.Expr.{Expr}
use Rattle.xt_syntax.specs.declared.queries.Query.{Query}
use Rattle.xt_syntax.specs.declared.queries.QueryVar.{QueryVar}
use Rattle.xt_syntax.specs.declared.queries.QueryFunction.{QueryFunction}
use Rattle.xt_syntax.specs.declared.queries.QueryParam.{QueryParam}
use Rattle.name_rules.specs.declared.functions.Signature.{Signature}
use Rattle.name_rules.specs.Broken.{names_broken_of}
use Rattle.name_rules.specs.Faults.{first}
use Rattle.name_rules.specs.Scopes.{with_names, names_differ, param_names, has_function, with_function}
use Rattle.closed_queries.specs.Texts.{is_sound_expr_name, is_sound_name_test, is_sound_type, is_free_binding, is_free_uri}
use Rattle.closed_queries.specs.ExprTexts.{has_sound_texts}

-- a regular type with texts and names that XML allows, where there is a type
unfoldable pub is_good_kind : Option SeqType → Bool
is_good_kind None = true
is_good_kind (Some kind) = is_regular_type kind && is_sound_type kind

-- a regular expression with texts and names that XML allows
unfoldable pub is_good_expr : Expr → Bool
is_good_expr e = is_regular_expr e && has_sound_texts e

unfoldable pub is_good_value : Option Expr → Bool
is_good_value None = true
is_good_value (Some e) = is_good_expr e

unfoldable pub is_good_variable : QueryVar → Bool
is_good_variable v = is_sound_expr_name v.name && (is_good_kind v.kind && is_good_value v.value)

unfoldable pub is_good_param : QueryParam → Bool
is_good_param p = is_sound_expr_name p.name && is_good_kind p.kind

unfoldable pub is_good_function : QueryFunction → Bool
is_good_function f = is_sound_expr_name f.name && (list_all is_good_param f.params && (is_good_kind f.kind && is_good_expr f.body))

-- its namespaces are not those of xml and xmlns, its expressions and types are regular, and XML allows its texts and names
unfoldable pub has_good_parts : Query → Bool
has_good_parts q =
    list_all is_free_binding q.prefixes
    && (is_free_uri q.element_default
    && (list_all is_good_variable q.variables
    && (list_all is_good_function q.functions && (is_good_expr q.body && list_all (λ r. is_sound_name_test r.test) q.space))))

abbrev pub variable_names : List QueryVar → List ExprName
variable_names variables = map (λ v. v.name) variables

-- no function has name and number of parameters of one in the list or of one that stands before
abbrev pub are_new_functions : List Signature → List QueryFunction → Bool
are_new_functions declared [] = true
are_new_functions declared (f ∷ fs) = not (has_function declared f.name (length f.params)) && are_new_functions (with_function declared f.name (length f.params)) fs

abbrev pub have_different_params : List QueryFunction → Bool
have_different_params functions = list_all (λ f. names_differ (param_names f.params)) functions

-- no two variables have one name, no two functions one name and number of parameters, no two parameters of one function one name
unfoldable pub has_different_names : Query → Bool
has_different_names q = names_differ (variable_names q.variables) && (are_new_functions [] q.functions && have_different_params q.functions)

abbrev pub with_functions : List Signature → List QueryFunction → List Signature
with_functions declared [] = declared
with_functions declared (f ∷ fs) = with_functions (with_function declared f.name (length f.params)) fs

-- each variable in the expression is in scope, and each function is known
abbrev pub keeps_names : List Signature → List ExprName → Expr → Bool
keeps_names functions scope e = is_none (first (names_broken_of functions e scope))

abbrev pub if_keeps : List Signature → List ExprName → Option Expr → Bool
if_keeps functions scope None = true
if_keeps functions scope (Some e) = keeps_names functions scope e

abbrev pub value_keeps_names : List Signature → List ExprName → QueryVar → Bool
value_keeps_names functions scope v = if_keeps functions scope v.value

abbrev pub body_keeps_names : List Signature → List ExprName → QueryFunction → Bool
body_keeps_names functions scope f = keeps_names functions (with_names scope (param_names f.params)) f.body

unfoldable pub all_keep_names : List Signature → List ExprName → Query → Bool
all_keep_names functions scope q =
    list_all (value_keeps_names functions scope) q.variables && (list_all (body_keeps_names functions scope) q.functions && keeps_names functions scope q.body)

-- each variable that is named is bound there or one of the query's, and each function that is called is one of the query's or known
unfoldable pub query_keeps_names : Query → Bool
query_keeps_names q = all_keep_names (with_functions [] q.functions) (with_names [] (variable_names q.variables)) q

unfoldable pub is_closed : Query → Bool
is_closed q = has_good_parts q && (has_different_names q && query_keeps_names q)
