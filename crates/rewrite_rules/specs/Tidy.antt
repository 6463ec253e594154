-- Expressions and queries in which no rule stands anywhere.
use Rattle.std.specs.Prelude.{◌≡◌, ◌≤◌, ℕ, List, [], ◌∷◌, map, Option, Some, None}
use Rattle.xt_names.specs.declared.names.ExprName.{ExprName}
use Rattle.xt_syntax.specs.declared.exprs.Expr.{Expr}
use Rattle.xt_syntax.specs.declared.queries.Query.{Query}
use Rattle.xt_syntax.specs.declared.queries.QueryFunction.{QueryFunction}
use Rattle.expr_meaning.specs.Outcomes.Outcome.{Every}
use Rattle.rewrite_rules.specs.Moved.{moved}
use Rattle.rewrite_rules.specs.Ended.{query_size}
use Rattle.rewrite_rules.specs.Passes.{rules, by_first, unchanged_variable, passes}

-- a rewriting that leaves each expression at which no rule stands
abbrev pub ChangesLittle : (List ExprName → Expr → Expr) → Type 0
ChangesLittle mark = (bound : List ExprName) (e : Expr) → by_first rules bound e ≡ None → mark bound e ≡ e

-- No rule is at any place: whatever is done, from within, to the places at which one stands, the
-- expression stays as it is.
abbrev pub NoneStands : List ExprName → Expr → Type 0
NoneStands bound e = (mark : List ExprName → Expr → Expr) → ChangesLittle mark →
    moved (List ExprName) (λ v names. v ∷ names) unchanged_variable mark e bound ≡ e

abbrev pub ValueTidy : Option Expr → Type 0
ValueTidy None = Unit {0}
ValueTidy (Some e) = NoneStands [] e

abbrev pub FunctionTidy : QueryFunction → Type 0
FunctionTidy f = NoneStands (map (λ p. p.name) f.params) f.body

abbrev pub QueryTidy : Query → Type 0
QueryTidy q =
    Every (λ v. ValueTidy v.value) q.variables × Every FunctionTidy q.functions × NoneStands [] q.body

-- with as many passes as the query is large
abbrev pub PassesTidy : Query → Type 0
PassesTidy q = (n : ℕ) → query_size q ≤ n → QueryTidy (passes n q)
