-- How deep a query nests: as the deepest of its expressions.
use Rattle.std.specs.Prelude.{ℕ, max, List, map, Option, Some, None}
use Rattle.xt_syntax.specs.declared.exprs.Expr.{Expr}
use Rattle.xt_syntax.specs.declared.queries.Query.{Query}
use Rattle.xt_syntax.specs.declared.queries.QueryVar.{QueryVar}
use Rattle.xt_syntax.specs.declared.queries.QueryFunction.{QueryFunction}
use Rattle.xt_forms.specs.Nest.{nest_of}
use Rattle.xt_names.specs.Lists.{greatest}

abbrev pub value_nest_of : Option Expr → ℕ
value_nest_of None = 0
value_nest_of (Some e) = nest_of e

abbrev pub variables_nest_of : List QueryVar → ℕ
variables_nest_of vs = greatest (map (λ v. value_nest_of v.value) vs)

abbrev pub functions_nest_of : List QueryFunction → ℕ
functions_nest_of fs = greatest (map (λ f. nest_of f.body) fs)

-- its body, its initialisers and the bodies of its functions
abbrev pub query_nest_of : Query → ℕ
query_nest_of q =
    max (max (variables_nest_of q.variables) (functions_nest_of q.functions)) (nest_of q.body)
