-- What passes leave as it is: what a query declares, but for expressions, and how deep these may nest.
use Rattle.std.specs.Prelude.{◌≡◌, ◌≤◌, ℕ, List, map, Option, Some, None}
use Rattle.xt_names.specs.declared.names.ExprName.{ExprName}
use Rattle.xt_types.specs.declared.types.SeqType.{SeqType}
use Rattle.xt_syntax.specs.declared.exprs.Expr.{Expr}
use Rattle.xt_syntax.specs.declared.queries.Query.{Query}
use Rattle.xt_syntax.specs.declared.queries.QueryFunction.{QueryFunction}
use Rattle.xt_syntax.specs.declared.queries.QueryParam.{QueryParam}
use Rattle.xt_syntax.specs.declared.queries.QueryVar.{QueryVar}
use Rattle.expr_meaning.specs.Outcomes.Outcome.{Every}
use Rattle.xt_forms.specs.Nest.{nest_of}
use Rattle.rewrite_rules.specs.Passes.{passes}

abbrev pub VariableHead : Type 0
VariableHead = ExprName × Option SeqType

abbrev pub variable_head : QueryVar → VariableHead
variable_head v = (v.name, v.kind)

abbrev pub FunctionHead : Type 0
FunctionHead = ExprName × List QueryParam × Option SeqType

abbrev pub function_head : QueryFunction → FunctionHead
function_head f = (f.name, f.params, f.kind)

-- the same names and types, and the same declarations
pub record SameHeads (q r : Query) : Type 0 where
  pub prefixes : q.prefixes ≡ r.prefixes
  pub element_default : q.element_default ≡ r.element_default
  pub space : q.space ≡ r.space
  pub omit : q.omit ≡ r.omit
  pub variables : map variable_head q.variables ≡ map variable_head r.variables
  pub functions : map function_head q.functions ≡ map function_head r.functions

abbrev pub ValueWithin : ℕ → Option Expr → Type 0
ValueWithin limit None = Unit {0}
ValueWithin limit (Some e) = nest_of e ≤ limit

-- each expression nests at most so deep
abbrev pub QueryWithin : ℕ → Query → Type 0
QueryWithin limit q =
    Every (λ v. ValueWithin limit v.value) q.variables
    × Every (λ f. nest_of f.body ≤ limit) q.functions × (nest_of q.body ≤ limit)

abbrev pub PassesKeep : Query → Type 0
PassesKeep q = (n : ℕ) →
    SameHeads (passes n q) q × ((limit : ℕ) → QueryWithin limit q → QueryWithin limit (passes n q))
