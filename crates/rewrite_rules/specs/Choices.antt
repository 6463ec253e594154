-- An `if` with an arm whose test is true() or false().
use Rattle.std.specs.Prelude.{List, [], ◌∷◌, ◌++◌, Bool, true, false, Option, Some, None, is_some}
use Rattle.std.specs.Prelude.{if◌then◌else◌}
use Rattle.xt_names.specs.declared.names.ExprName.{ExprName}
use Rattle.xt_syntax.specs.declared.exprs.Expr.{Expr}
use Rattle.xt_syntax.specs.declared.exprs.Arm.{Arm}
use Rattle.xt_syntax.specs.declared.exprs.Clause.TheOpen.{If}
use Rattle.xt_syntax.specs.declared.exprs.Clause.TheViews.{out-Expr, out-Arm, roll-Expr}
use Rattle.rewrite_rules.specs.Forms.{ExprForm, some_of}
use Rattle.rewrite_rules.specs.Known.{fixed_truth}

abbrev pub arm_truth : Arm → Option Bool
arm_truth a = fixed_truth (out-Arm a).test

abbrev pub is_decided : Arm → Bool
is_decided a = is_some (arm_truth a)

-- the arms before the first whose test is true(), without those whose test is false()
abbrev pub kept_arm : Option Bool → Arm → List Arm → List Arm
kept_arm None a arms = a ∷ arms
kept_arm (Some true) a arms = []
kept_arm (Some false) a arms = arms

abbrev pub kept_arms : List Arm → List Arm
kept_arms [] = []
kept_arms (a ∷ arms) = kept_arm (arm_truth a) a (kept_arms arms)

-- the body of the first arm whose test is true(), or else the last part
abbrev pub last_here : Option Bool → Arm → Expr → Expr
last_here None a other = other
last_here (Some true) a other = (out-Arm a).then
last_here (Some false) a other = other

abbrev pub last_part : List Arm → Expr → Expr
last_part [] other = other
last_part (a ∷ arms) other = last_here (arm_truth a) a (last_part arms other)

-- an `if` that becomes the last part of an `if` joins its chain
abbrev pub chained : List Arm → Expr → ExprForm → Expr
chained arms other (If more last) = roll-Expr (If (arms ++ more) last)
chained arms other x = roll-Expr (If arms other)

-- an `if` without arms is its last part
abbrev pub choice : List Arm → Expr → Expr
choice [] other = other
choice (a ∷ arms) other = chained (a ∷ arms) other (out-Expr other)

abbrev pub rule_2_form : ExprForm → Option Expr
rule_2_form (If arms other) =
    if some_of is_decided arms then Some (choice (kept_arms arms) (last_part arms other)) else None
rule_2_form x = None

abbrev pub rule_2 : List ExprName → Expr → Option Expr
rule_2 bound e = rule_2_form (out-Expr e)
