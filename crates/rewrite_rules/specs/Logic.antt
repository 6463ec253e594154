-- `and` and `or` with a part that is true() or false().
use Rattle.std.specs.Prelude.{List, [], ◌∷◌, Bool, true, false, not, Option, Some, None}
use Rattle.std.specs.Prelude.{if◌then◌else◌}
use Rattle.std.specs.Bool.{beq}
use Rattle.xt_names.specs.declared.names.ExprName.{ExprName}
use Rattle.xt_syntax.specs.declared.exprs.Expr.{Expr}
use Rattle.xt_syntax.specs.declared.exprs.Clause.TheOpen.{And, Or}
use Rattle.xt_syntax.specs.declared.exprs.Clause.TheViews.{out-Expr, roll-Expr}
use Rattle.rewrite_rules.specs.Forms.{ExprForm}
use Rattle.rewrite_rules.specs.Known.{fixed_truth, constant_call, boolean_call}

-- The truth value that decides is false for `and` and true for `or`. A part that is the other one
-- goes, and so do the parts after one that decides.
abbrev pub kept_part : Bool → Option Bool → Expr → List Expr → List Expr
kept_part decisive None e more = e ∷ more
kept_part decisive (Some t) e more = if beq t decisive then e ∷ [] else more

abbrev pub kept_parts : Bool → List Expr → List Expr
kept_parts decisive [] = []
kept_parts decisive (e ∷ es) = kept_part decisive (fixed_truth e) e (kept_parts decisive es)

abbrev pub has_parts : List Expr → Bool
has_parts [] = false
has_parts (e ∷ es) = true

abbrev pub goes_here : Bool → Option Bool → List Expr → Bool → Bool
goes_here decisive None es rest = rest
goes_here decisive (Some t) es rest = if beq t decisive then has_parts es else true

-- whether some part goes
abbrev pub loses : Bool → List Expr → Bool
loses decisive [] = false
loses decisive (e ∷ es) = goes_here decisive (fixed_truth e) es (loses decisive es)

abbrev pub connected : Bool → List Expr → ExprForm
connected true all = Or all
connected false all = And all

-- of one part its truth value, and of none the one that does not decide
abbrev pub joined : Bool → List Expr → Expr
joined decisive [] = constant_call (not decisive)
joined decisive (e ∷ []) = boolean_call e
joined decisive (a ∷ b ∷ more) = roll-Expr (connected decisive (a ∷ b ∷ more))

abbrev pub logic_rule : Bool → List Expr → Option Expr
logic_rule decisive all =
    if loses decisive all then Some (joined decisive (kept_parts decisive all)) else None

abbrev pub rule_8_form : ExprForm → Option Expr
rule_8_form (And all) = logic_rule false all
rule_8_form (Or all) = logic_rule true all
rule_8_form x = None

abbrev pub rule_8 : List ExprName → Expr → Option Expr
rule_8 bound e = rule_8_form (out-Expr e)
