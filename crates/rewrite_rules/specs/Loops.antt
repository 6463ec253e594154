-- A `for` over one literal is a `let`.
use Rattle.std.specs.Prelude.{List, map, Bool, true, false, Option, Some, None}
use Rattle.std.specs.Prelude.{if◌then◌else◌}
use Rattle.xt_names.specs.declared.names.ExprName.{ExprName}
use Rattle.xt_types.specs.declared.types.SeqType.{SeqType}
use Rattle.xt_syntax.specs.declared.exprs.Expr.{Expr}
use Rattle.xt_syntax.specs.declared.exprs.Clause.{Clause}
use Rattle.xt_syntax.specs.declared.exprs.Bind.{Bind}
use Rattle.xt_syntax.specs.declared.exprs.Clause.TheOpen.{Int, Str, Flwor, For, Let}
use Rattle.xt_syntax.specs.declared.exprs.Clause.TheViews.{out-Expr, out-Bind, out-Clause, out-Flwor}
use Rattle.xt_syntax.specs.declared.exprs.Clause.TheViews.{roll-Expr, roll-Clause, roll-Flwor}
use Rattle.rewrite_rules.specs.Forms.{ExprForm, ClauseForm, FlworForm, some_of}

abbrev pub is_literal_form : ExprForm → Bool
is_literal_form (Int n) = true
is_literal_form (Str text) = true
is_literal_form x = false

abbrev pub is_literal : Expr → Bool
is_literal e = is_literal_form (out-Expr e)

abbrev pub is_untyped : Option SeqType → Expr → Bool
is_untyped None e = is_literal e
is_untyped (Some kind) e = false

abbrev pub is_single_bind : Bind → Bool
is_single_bind b = is_untyped (out-Bind b).kind (out-Bind b).source

abbrev pub is_single_form : ClauseForm → Bool
is_single_form (For b None) = is_single_bind b
is_single_form (For b (Some place)) = false
is_single_form (Let b) = false

abbrev pub is_single : Clause → Bool
is_single c = is_single_form (out-Clause c)

abbrev pub let_of : Clause → ClauseForm → Clause
let_of c (For b place) = roll-Clause (Let b)
let_of c (Let b) = c

abbrev pub as_let : Clause → Clause
as_let c = if is_single c then let_of c (out-Clause c) else c

abbrev pub with_clauses : FlworForm → List Clause → Expr
with_clauses f clauses = roll-Expr (Flwor (roll-Flwor (record {
  clauses = clauses;
  test = f.test;
  orders = f.orders;
  stable = f.stable;
  body = f.body;
})))

abbrev pub loops_rule : FlworForm → Option Expr
loops_rule f =
    if some_of is_single f.clauses then Some (with_clauses f (map as_let f.clauses)) else None

abbrev pub rule_6_form : ExprForm → Option Expr
rule_6_form (Flwor f) = loops_rule (out-Flwor f)
rule_6_form x = None

abbrev pub rule_6 : List ExprName → Expr → Option Expr
rule_6 bound e = rule_6_form (out-Expr e)
