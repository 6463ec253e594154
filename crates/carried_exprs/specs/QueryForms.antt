-- Forms of the query of which translations and their helper functions are made.
use Rattle.std.specs.Prelude.{ℕ, List, [], ◌∷◌, Bool, false, Option, Some, None}
use Rattle.xt_names.specs.declared.names.ExprName.{ExprName}
use Rattle.xt_types.specs.declared.node_tests.Test.{Test}
use Rattle.xt_types.specs.declared.types.ItemType.TheVariants.{Kind}
use Rattle.xt_types.specs.declared.types.SeqType.{SeqType}
use Rattle.xt_types.specs.declared.types.SeqType.TheVariants.{Of}
use Rattle.xt_types.specs.declared.types.Count.TheVariants.{One}
use Rattle.xt_syntax.specs.declared.exprs.Expr.{Expr}
use Rattle.xt_syntax.specs.declared.exprs.Arm.{Arm}
use Rattle.xt_syntax.specs.declared.exprs.Bind.{Bind}
use Rattle.xt_syntax.specs.declared.exprs.Clause.{Clause}
use Rattle.xt_syntax.specs.declared.exprs.Order.{Order}
use Rattle.xt_syntax.specs.declared.exprs.Clause.TheViews.{roll-Expr, roll-Arm, roll-Clause}
use Rattle.xt_syntax.specs.declared.exprs.Clause.TheViews.{roll-Flwor, roll-Bind}
use Rattle.xt_syntax.specs.declared.exprs.Clause.TheOpen.{Str, If, Flwor, Quant}
use Rattle.xt_syntax.specs.declared.exprs.Clause.TheOpen.{InstanceOf, For, Let}

abbrev pub bind_of : ExprName → Expr → Bind
bind_of v e = roll-Bind (record { var = v; kind = None; source = e })

-- `let $v := e`, `for $v in e` and `for $v at $p in e`
abbrev pub let_clause : ExprName → Expr → Clause
let_clause v e = roll-Clause (Let (bind_of v e))

abbrev pub for_clause : ExprName → Expr → Clause
for_clause v e = roll-Clause (For (bind_of v e) None)

abbrev pub for_at_clause : ExprName → ExprName → Expr → Clause
for_at_clause v p e = roll-Clause (For (bind_of v e) (Some p))

-- clauses, a test, keys of the order, and the body
abbrev pub flow_of : List Clause → Option Expr → List Order → Bool → Expr → Expr
flow_of clauses test orders stable body = roll-Expr (Flwor (roll-Flwor (record {
  clauses = clauses;
  test = test;
  orders = orders;
  stable = stable;
  body = body;
})))

abbrev pub flow : List Clause → Expr → Expr
flow clauses body = flow_of clauses None [] false body

-- `for $v in e return body`, `for $v at $p in e return body` and `let $v := e return body`
abbrev pub for_in : ExprName → Expr → Expr → Expr
for_in v e body = flow (for_clause v e ∷ []) body

abbrev pub for_at : ExprName → ExprName → Expr → Expr → Expr
for_at v p e body = flow (for_at_clause v p e ∷ []) body

abbrev pub let_in : ExprName → Expr → Expr → Expr
let_in v e body = flow (let_clause v e ∷ []) body

-- `if (a) then b else c`
abbrev pub arm_of : Expr × Expr → Arm
arm_of a = roll-Arm (record { test = a.0; then = a.1 })

abbrev pub if_of : Expr → Expr → Expr → Expr
if_of a b c = roll-Expr (If (arm_of (a, b) ∷ []) c)

-- `some $v in e satisfies test`
abbrev pub some_in : ExprName → Expr → Expr → Expr
some_in v e test = roll-Expr (Quant false (bind_of v e ∷ []) test)

-- `e instance of ..`, of one node that passes the test
abbrev pub of_kind : Test → SeqType
of_kind wanted = Of (Kind wanted) One

abbrev pub is_of_kind : Expr → Test → Expr
is_of_kind e wanted = roll-Expr (InstanceOf e (of_kind wanted))

abbrev pub text_literal : List ℕ → Expr
text_literal t = roll-Expr (Str t)
