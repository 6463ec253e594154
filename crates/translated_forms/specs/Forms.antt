-- Forms of the query of which a translation is made.
use Rattle.std.specs.Prelude.{ℕ, pos, List, [], ◌∷◌, ◌++◌, Bool, true, false, codes, Some, None}
use Rattle.xt_names.specs.declared.names.ExprName.{ExprName}
use Rattle.xt_syntax.specs.declared.exprs.Expr.{Expr}
use Rattle.xt_syntax.specs.declared.exprs.Arm.{Arm}
use Rattle.xt_syntax.specs.declared.exprs.Clause.{Clause}
use Rattle.xt_syntax.specs.declared.exprs.Order.{Order}
use Rattle.xt_syntax.specs.declared.exprs.Clause.TheViews.{out-Expr, roll-Expr, roll-Order}
use Rattle.xt_syntax.specs.declared.exprs.Clause.TheOpen.{Int, Comma, Or, If, Filter, Call}
use Rattle.carried_exprs.specs.Forms.{ExprForm}
use Rattle.carried_exprs.specs.Sights.{variable_of, library_call}
pub use Rattle.carried_exprs.specs.QueryForms.{bind_of, let_clause, for_clause, for_at_clause}
pub use Rattle.carried_exprs.specs.QueryForms.{flow_of, flow, for_in, let_in, arm_of, if_of, some_in}
pub use Rattle.carried_exprs.specs.QueryForms.{of_kind, is_of_kind, text_literal}
use Rattle.translated_forms.specs.Names.{local_name}

abbrev pub flow_where : List Clause → Expr → Expr → Expr
flow_where clauses test body = flow_of clauses (Some test) [] false body

abbrev pub flow_ordered : List Clause → List Order → Expr → Expr
flow_ordered clauses orders body = flow_of clauses None orders true body

abbrev pub order_of : Expr → Bool → Order
order_of key descending = roll-Order (record { key = key; descending = descending })

-- a body without clauses is itself
unfoldable pub flow_or_body : List Clause → Expr → Expr
flow_or_body [] body = body
flow_or_body (c ∷ cs) body = flow (c ∷ cs) body

-- `a, b, ..`; one alone is itself
unfoldable pub comma : List Expr → Expr
comma [] = roll-Expr (Comma [])
comma (e ∷ []) = e
comma (e ∷ f ∷ es) = roll-Expr (Comma (e ∷ f ∷ es))

-- `if (a) then b else ..`
abbrev pub if_many : List Arm → Expr → Expr
if_many arms other = roll-Expr (If arms other)

-- where the last part is an `if` itself, its arms follow
abbrev pub chain_form : List Arm → ExprForm → Expr
chain_form arms (If more other) = if_many (arms ++ more) other
chain_form arms x = if_many arms (roll-Expr x)

unfoldable pub if_chain : List Arm → Expr → Expr
if_chain [] other = other
if_chain (a ∷ arms) other = chain_form (a ∷ arms) (out-Expr other)

-- `a or b or ..`; one alone is itself
unfoldable pub one_of_tests : List Expr → Expr
one_of_tests [] = library_call (codes "false") []
one_of_tests (e ∷ []) = e
one_of_tests (e ∷ f ∷ es) = roll-Expr (Or (e ∷ f ∷ es))

abbrev pub number : ℕ → Expr
number n = roll-Expr (Int (pos n))

-- `e[test]..`
abbrev pub filtered : Expr → List Expr → Expr
filtered e tests = roll-Expr (Filter e tests)

abbrev pub local_call : List ℕ → List Expr → Expr
local_call local args = roll-Expr (Call (local_name local) args)

-- `error()`
abbrev pub failing : Expr
failing = library_call (codes "error") []

abbrev pub count_of : ExprName → Expr
count_of v = library_call (codes "count") (variable_of v ∷ [])

abbrev pub same_key : ExprName → ExprName → Expr
same_key a b = library_call (codes "deep-equal") (variable_of a ∷ variable_of b ∷ [])
