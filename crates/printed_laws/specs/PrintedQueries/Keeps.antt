-- What is asked of a query besides that its parts can be printed: its namespaces, variables and
-- functions break no rule, and elements have no default uri (XQuery 1.0, 4).
use Rattle.std.specs.Prelude.{Bool, ◌&&◌, List, ◌++◌, map}
use Rattle.xt_names.specs.Allowed.{is_empty_text}
use Rattle.xt_syntax.specs.declared.queries.Query.{Query}
use Rattle.expr_raws.specs.PathRaws.Names.{no_codes}
use Rattle.closed_queries.specs.declared.prolog_rules.declarations.Declaration.{Declaration}
use Rattle.closed_queries.specs.declared.prolog_rules.declarations.Declaration.TheVariants as declaration
use Rattle.closed_queries.specs.declared.prolog_rules.setters.Setter.{Setter}
use Rattle.closed_queries.specs.declared.prolog_rules.setters.Setter.TheVariants as setter
use Rattle.closed_queries.specs.PrologRules.Declarations.{query_broken}
use Rattle.closed_queries.specs.PrologRules.Setters.{nothing_seen, setters_broken}
use Rattle.printed_laws.specs.QueryRaws.Queries.{can_print}

-- variables, and after them functions
abbrev pub declared_in : Query → List Declaration
declared_in q = map (λ v. declaration.Variable v) q.variables
    ++ map (λ f. declaration.Function f) q.functions

abbrev pub namespaces_in : Query → List Setter
namespaces_in q = map (λ b. setter.Namespace b) q.prefixes

-- no prefix stands twice, and none is xml or xmlns or has the uri of one
abbrev pub has_own_prefixes : Query → Bool
has_own_prefixes q = no_codes (setters_broken nothing_seen (namespaces_in q))

-- No two variables have one name, no two functions one name and number of parameters, no two
-- parameters of one function one name; functions are in a namespace that is not reserved; and each
-- name in an expression is in scope, where a variable is so after its declaration.
abbrev pub keeps_declarations : Query → Bool
keeps_declarations q = no_codes (query_broken (declared_in q) q.body)

-- whether the query that is written means the query
abbrev pub is_kept : Query → Bool
is_kept q = can_print q
    && (is_empty_text q.element_default && (has_own_prefixes q && keeps_declarations q))
