-- Predicates by their forms.
use Rattle.std.specs.Prelude.{◌≡◌, ℕ, ℤ, List, map, Bool, true}
use Rattle.std.specs.List.{list_all}
use Rattle.xt_names.specs.declared.kinds.CompareOp.{CompareOp}
use Rattle.xt_names.specs.declared.names.ExprName.{ExprName}
use Rattle.xt_types.specs.declared.axes.Axis.{Axis}
use Rattle.xt_types.specs.declared.node_tests.Test.{Test}
use Rattle.xt_syntax.specs.declared.exprs.Expr.{Expr}
use Rattle.xt_syntax.specs.declared.exprs.Clause.TheViews.{roll-Expr}
use Rattle.xt_syntax.specs.declared.exprs.Clause.TheOpen.{Int, Str, Or, And, General, Slash, Step, Call}
use Rattle.quiet_meaning.specs.Quietly.{quietly_of, is_truth}
use Rattle.quiet_meaning.specs.Paths.{is_path_form}

-- `k`, `"t"`, `a or b ..`, `a and b ..`, a comparison, `a/b`, an axis step, a call
abbrev pub integer_of : ℤ → Expr
integer_of k = roll-Expr (Int k)

abbrev pub literal_of : List ℕ → Expr
literal_of t = roll-Expr (Str t)

abbrev pub or_of : List Expr → Expr
or_of all = roll-Expr (Or all)

abbrev pub and_of : List Expr → Expr
and_of all = roll-Expr (And all)

abbrev pub comparison_of : CompareOp → Expr → Expr → Expr
comparison_of op a b = roll-Expr (General op a b)

abbrev pub slash_of : Expr → Expr → Expr
slash_of a b = roll-Expr (Slash a b)

abbrev pub step_of : Axis → Test → List Expr → Expr
step_of along wanted tests = roll-Expr (Step along wanted tests)

abbrev pub call_of : ExprName → List Expr → Expr
call_of name args = roll-Expr (Call name args)

-- an axis step, or several joined by `/`, with predicates that have a meaning
abbrev pub IsPath : Expr → Type 0
IsPath e = is_path_form (quietly_of e) ≡ true

-- predicates that `or`, `and` and `not` take
abbrev pub are_truths : List Expr → Bool
are_truths all = list_all is_truth (map quietly_of all)
