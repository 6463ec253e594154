-- How large a query is, and that passes over it end.
use Rattle.std.specs.Prelude.{◌≡◌, ◌≤◌, ◌+◌, ℕ, List, map, Option, Some, None}
use Rattle.xt_names.specs.declared.names.ExprName.{ExprName}
use Rattle.xt_syntax.specs.declared.exprs.Expr.{Expr}
use Rattle.xt_syntax.specs.declared.queries.Query.{Query}
use Rattle.xt_syntax.specs.declared.queries.QueryFunction.{QueryFunction}
use Rattle.xt_syntax.specs.declared.queries.QueryVar.{QueryVar}
use Rattle.xt_forms.specs.Nest.{nest_of}
use Rattle.rewrite_rules.specs.Sizes.{size_of}
use Rattle.rewrite_rules.specs.Passes.{tidied, tidied_query, passes}
use Rattle.xt_names.specs.Lists.{total}

abbrev pub value_size : Option Expr → ℕ
value_size None = 0
value_size (Some e) = size_of e

abbrev pub variable_size : QueryVar → ℕ
variable_size v = value_size v.value

abbrev pub function_size : QueryFunction → ℕ
function_size f = size_of f.body

abbrev pub query_size : Query → ℕ
query_size q =
    total (map variable_size q.variables) + (total (map function_size q.functions) + size_of q.body)

-- with as many passes as the query is large, one more changes nothing
abbrev pub PassesEnd : Query → Type 0
PassesEnd q = (n : ℕ) → query_size q ≤ n → tidied_query (passes n q) ≡ passes n q

-- a pass makes no expression nest deeper
abbrev pub NestsNoDeeper : List ExprName → Expr → Type 0
NestsNoDeeper bound e = nest_of (tidied bound e) ≤ nest_of e
