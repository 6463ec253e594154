-- The rules that the variables and functions of a prolog break (XQuery 1.0, 4.14 and 4.15).
use Rattle.std.specs.Prelude.{ℕ, List, [], ◌∷◌, ◌++◌, length, Bool, not, ◌||◌, codes, Option, Some, None}
use Rattle.std.specs.Str.{bytes_eq}
use Rattle.xt_names.specs.Allowed.{is_empty_text, xml_uri}
use Rattle.xt_names.specs.declared.names.ExprName.{ExprName}
use Rattle.xt_names.specs.declared.codes.Code.{Code}
use Rattle.xt_names.specs.declared.codes.QueryStaticCode.TheVariants.{XQST0034, XQST0039, XQST0045, XQST0049, XQST0060}
use Rattle.xt_syntax.specs.declared.exprs.Expr.{Expr}
use Rattle.xt_syntax.specs.declared.queries.QueryVar.{QueryVar}
use Rattle.xt_syntax.specs.declared.queries.QueryFunction.{QueryFunction}
use Rattle.xt_syntax.specs.declared.queries.QueryParam.{QueryParam}
use Rattle.name_rules.specs.declared.functions.Signature.{Signature}
use Rattle.name_rules.specs.Broken.{names_broken_of}
use Rattle.name_rules.specs.Scopes.{has_name, with_name, with_names, names_differ, param_names, has_function, with_function}
use Rattle.closed_queries.specs.declared.prolog_rules.declarations.Declaration.{Declaration}
use Rattle.closed_queries.specs.declared.prolog_rules.declarations.Declaration.TheVariants.{Variable, Function}
use Rattle.closed_queries.specs.PrologRules.Setters.{broken_if}

-- the namespaces in which a query declares no function
unfoldable pub is_reserved_uri : List ℕ → Bool
is_reserved_uri uri =
    bytes_eq uri xml_uri
    || (bytes_eq uri (codes "http://www.w3.org/2001/XMLSchema")
    || (bytes_eq uri (codes "http://www.w3.org/2001/XMLSchema-instance") || bytes_eq uri (codes "http://www.w3.org/2005/xpath-functions")))

-- the rules on the name of a function, after the functions before it
unfoldable pub function_name_broken : List Signature → QueryFunction → List Code
function_name_broken declared f =
    broken_if (has_function declared f.name (length f.params)) XQST0034
    ++ (broken_if (is_reserved_uri f.name.uri) XQST0045 ++ broken_if (is_empty_text f.name.uri) XQST0060)

-- two parameters have one name
abbrev pub params_broken : List QueryParam → List Code
params_broken params = broken_if (not (names_differ (param_names params))) XQST0039

module _ (functions : List Signature) where
  unfoldable pub value_broken : List ExprName → Option Expr → List Code
  value_broken scope None = []
  value_broken scope (Some e) = names_broken_of functions e scope

  unfoldable pub variable_broken : List ExprName → QueryVar → List Code
  variable_broken scope v = broken_if (has_name scope v.name) XQST0049 ++ value_broken scope v.value

  -- the body sees the variables that are declared before it, and its parameters
  abbrev pub body_broken : List ExprName → QueryFunction → List Code
  body_broken scope f = names_broken_of functions f.body (with_names scope (param_names f.params))

  unfoldable pub function_broken : List ExprName → List Signature → QueryFunction → List Code
  function_broken scope declared f = function_name_broken declared f ++ (params_broken f.params ++ body_broken scope f)

  unfoldable pub declaration_broken : List ExprName → List Signature → Declaration → List Code
  declaration_broken scope declared (Variable v) = variable_broken scope v
  declaration_broken scope declared (Function f) = function_broken scope declared f

unfoldable pub scope_behind : List ExprName → Declaration → List ExprName
scope_behind scope (Variable v) = with_name scope v.name
scope_behind scope (Function f) = scope

unfoldable pub functions_behind : List Signature → Declaration → List Signature
functions_behind declared (Variable v) = declared
functions_behind declared (Function f) = with_function declared f.name (length f.params)

abbrev pub all_behind : List Signature → List Declaration → List Signature
all_behind declared [] = declared
all_behind declared (d ∷ ds) = all_behind (functions_behind declared d) ds

-- the rules that are broken after what is declared before, in reading order: a variable is in scope after its declaration
abbrev pub declarations_broken : List Signature → List ExprName → List Signature → List Declaration → Expr → List Code
declarations_broken functions scope declared [] body = names_broken_of functions body scope
declarations_broken functions scope declared (d ∷ ds) body =
    declaration_broken functions scope declared d
    ++ declarations_broken functions (scope_behind scope d) (functions_behind declared d) ds body

-- the rules that a query breaks: each function is known everywhere in it
abbrev pub query_broken : List Declaration → Expr → List Code
query_broken ds body = declarations_broken (all_behind [] ds) [] [] ds body
