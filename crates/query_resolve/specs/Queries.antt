-- What a query means that is read, and the rules that it breaks (XQuery 1.0, 2.2.4 and 4).
use Rattle.std.specs.Prelude.{◌≡◌, List, [], ◌∷◌, ◌++◌, Option, Some, None, Result, Ok, Err}
use Rattle.xt_names.specs.declared.codes.Code.{Code}
use Rattle.xt_syntax.specs.declared.exprs.Expr.{Expr}
use Rattle.xt_syntax.specs.declared.queries.Query.{Query}
use Rattle.xt_syntax.specs.declared.queries.QueryVar.{QueryVar}
use Rattle.xt_syntax.specs.declared.queries.QueryFunction.{QueryFunction}
use Rattle.expr_names.specs.Answers.{first}
use Rattle.expr_names.specs.declared.fault.ResolveFault.{ResolveFault}
use Rattle.expr_names.specs.declared.fault.ResolveFault.TheVariants.{Static, Memory}
use Rattle.closed_queries.specs.declared.prolog_rules.declarations.Declaration.{Declaration}
use Rattle.closed_queries.specs.declared.prolog_rules.declarations.Declaration.TheVariants as declaration
use Rattle.closed_queries.specs.declared.prolog_rules.setters.Setter.{Setter}
use Rattle.closed_queries.specs.PrologRules.Declarations.{query_broken}
use Rattle.expr_resolve.specs.declared.setting.Setting.{Setting}
use Rattle.expr_resolve.specs.Folds.{broken_of, expr_meant}
use Rattle.query_grammar.specs.declared.declared.RawQuery.{RawQuery}
use Rattle.query_resolve.specs.QueryPrologs.Setters.{setters_of, first_part_broken}
use Rattle.query_resolve.specs.QueryPrologs.Prefixes.{declared_bindings, is_stripped, prefixes_of}
use Rattle.query_resolve.specs.declared.late.Late.{Late}
use Rattle.query_options.specs.Options.{no_options}
use Rattle.query_resolve.specs.Late.{late_meant, all_broken}

unfoldable pub variable_and : Declaration → List QueryVar → List QueryVar
variable_and (declaration.Variable v) vs = v ∷ vs
variable_and (declaration.Function f) vs = vs

-- the variables among the declarations, in order
abbrev pub variables_in : List Declaration → List QueryVar
variables_in [] = []
variables_in (d ∷ ds) = variable_and d (variables_in ds)

unfoldable pub function_and : Declaration → List QueryFunction → List QueryFunction
function_and (declaration.Variable v) fs = fs
function_and (declaration.Function f) fs = f ∷ fs

-- .. and the functions
abbrev pub functions_in : List Declaration → List QueryFunction
functions_in [] = []
functions_in (d ∷ ds) = function_and d (functions_in ds)

-- what is known where the expressions of a query stand
abbrev pub setting_behind : List Setter → Setting
setting_behind ss = record { prefixes = prefixes_of ss; strip = is_stripped ss }

abbrev pub setting_of : RawQuery → Setting
setting_of raw = setting_behind (setters_of raw.declared)

-- what its variables, functions and options mean
abbrev pub late_of : RawQuery → Late
late_of raw = late_meant (setting_of raw) raw.declared

-- the rules that are broken after the setters: those on how the rest is written, and those on
-- variables and functions that are not declared
abbrev pub rest_broken : Setting → RawQuery → List Code
rest_broken s raw =
    (all_broken s no_options raw.declared ++ broken_of s raw.body)
    ++ query_broken (late_meant s raw.declared).declarations (expr_meant s raw.body)

-- the rules that a query breaks, of which the first counts
abbrev pub rules_broken : RawQuery → List Code
rules_broken raw = first_part_broken raw.declared ++ rest_broken (setting_of raw) raw

-- the query of these parts
abbrev pub query_by : List Setter → Setting → Late → Expr → Query
query_by ss s late body = record {
  prefixes = declared_bindings ss;
  element_default = s.prefixes.element_default;
  variables = variables_in late.declarations;
  functions = functions_in late.declarations;
  body = body;
  space = late.options.rules;
  omit = late.options.omit;
}

-- the query that it means
abbrev pub query_meant : RawQuery → Query
query_meant raw = query_by (setters_of raw.declared) (setting_of raw) (late_of raw)
    (expr_meant (setting_of raw) raw.body)

-- what a query is resolved to: the query that it means, or the code of the first broken rule
pub data Answer : Type 0 where
  value : Query → Answer
  static : Code → Answer

abbrev pub value_or : Option Code → Query → Answer
value_or None q = value q
value_or (Some c) q = static c

abbrev pub resolved : RawQuery → Answer
resolved raw = value_or (first (rules_broken raw)) (query_meant raw)

-- the call answers so, unless memory ran out
abbrev pub Gives : Result Query ResolveFault → Answer → Type 0
Gives (Ok q) a = a ≡ value q
Gives (Err (Static c)) a = a ≡ static c
Gives (Err (Memory e)) a = Unit {0}
