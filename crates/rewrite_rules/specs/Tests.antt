-- not() of empty() and of exists(), and boolean() where a truth value is asked for.
use Rattle.std.specs.Prelude.{List, [], ◌∷◌, map, Bool, true, false, Option, Some, None, codes}
use Rattle.std.specs.Prelude.{if◌then◌else◌}
use Rattle.xt_names.specs.declared.names.ExprName.{ExprName}
use Rattle.xt_syntax.specs.declared.exprs.Expr.{Expr}
use Rattle.xt_syntax.specs.declared.exprs.Arm.{Arm}
use Rattle.xt_syntax.specs.declared.exprs.Clause.TheOpen.{If, And, Or, Call, Flwor}
use Rattle.xt_syntax.specs.declared.exprs.Clause.TheViews.{out-Expr, out-Arm, out-Flwor, roll-Expr}
use Rattle.xt_syntax.specs.declared.exprs.Clause.TheViews.{roll-Arm, roll-Flwor}
use Rattle.rewrite_rules.specs.Forms.{ExprForm, FlworForm, some_of}
use Rattle.rewrite_rules.specs.Known.{Known, constant, negation, emptiness, existence, truth, unknown}
use Rattle.rewrite_rules.specs.Known.{known, call}

-- the opposite of empty() is exists(), and the other way round
abbrev pub turned : Known → Option Expr
turned (emptiness e) = Some (call (codes "exists") (e ∷ []))
turned (existence e) = Some (call (codes "empty") (e ∷ []))
turned (constant t) = None
turned (negation e) = None
turned (truth e) = None
turned unknown = None

abbrev pub negated_test : Known → Option Expr
negated_test (negation e) = turned (known e)
negated_test (constant t) = None
negated_test (emptiness e) = None
negated_test (existence e) = None
negated_test (truth e) = None
negated_test unknown = None

abbrev pub rule_4 : List ExprName → Expr → Option Expr
rule_4 bound e = negated_test (known e)

-- the argument of boolean(), and any other expression itself
abbrev pub is_boolean_call : Known → Bool
is_boolean_call (truth e) = true
is_boolean_call (constant t) = false
is_boolean_call (negation e) = false
is_boolean_call (emptiness e) = false
is_boolean_call (existence e) = false
is_boolean_call unknown = false

abbrev pub is_boolean : Expr → Bool
is_boolean e = is_boolean_call (known e)

abbrev pub bare_of : Expr → Known → Expr
bare_of e (truth a) = a
bare_of e (constant t) = e
bare_of e (negation a) = e
bare_of e (emptiness a) = e
bare_of e (existence a) = e
bare_of e unknown = e

abbrev pub bare : Expr → Expr
bare e = bare_of e (known e)

abbrev pub bare_arm : Arm → Arm
bare_arm a = roll-Arm (record { test = bare (out-Arm a).test; then = (out-Arm a).then })

abbrev pub is_boolean_arm : Arm → Bool
is_boolean_arm a = is_boolean (out-Arm a).test

abbrev pub bare_where : FlworForm → Option Expr → Option Expr
bare_where f None = None
bare_where f (Some test) =
    if is_boolean test then Some (roll-Expr (Flwor (roll-Flwor (record {
      clauses = f.clauses;
      test = Some (bare test);
      orders = f.orders;
      stable = f.stable;
      body = f.body;
    })))) else None

abbrev pub bare_negated : Known → Option Expr
bare_negated (negation e) =
    if is_boolean e then Some (call (codes "not") (bare e ∷ [])) else None
bare_negated (constant t) = None
bare_negated (emptiness e) = None
bare_negated (existence e) = None
bare_negated (truth e) = None
bare_negated unknown = None

abbrev pub rule_5_form : ExprForm → Known → Option Expr
rule_5_form (If arms other) k =
    if some_of is_boolean_arm arms then Some (roll-Expr (If (map bare_arm arms) other)) else None
rule_5_form (And all) k =
    if some_of is_boolean all then Some (roll-Expr (And (map bare all))) else None
rule_5_form (Or all) k =
    if some_of is_boolean all then Some (roll-Expr (Or (map bare all))) else None
rule_5_form (Flwor f) k = bare_where (out-Flwor f) (out-Flwor f).test
rule_5_form (Call name args) k = bare_negated k
rule_5_form x k = None

abbrev pub rule_5 : List ExprName → Expr → Option Expr
rule_5 bound e = rule_5_form (out-Expr e) (known e)
