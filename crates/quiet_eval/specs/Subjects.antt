-- The parts of a predicate by which it is decided.
use Rattle.std.specs.Prelude.{ℕ, List, [], ◌∷◌, Bool, true, false, if◌then◌else◌, Option, Some, None}
use Rattle.std.specs.List.{list_all, list_any}
use Rattle.xt_tree.specs.Place.{Place}
use Rattle.xt_syntax.specs.declared.exprs.Expr.{Expr}
use Rattle.xt_syntax.specs.declared.exprs.Arm.{Arm}
use Rattle.xt_syntax.specs.declared.exprs.Clause.{Clause}
use Rattle.xt_syntax.specs.declared.exprs.Order.{Order}
use Rattle.xt_syntax.specs.declared.exprs.Flwor.{Flwor as FlworOf}
use Rattle.xt_syntax.specs.declared.exprs.Bind.{Bind}
use Rattle.xt_syntax.specs.declared.exprs.NameSource.{NameSource}
use Rattle.xt_syntax.specs.declared.exprs.DirectAttr.{DirectAttr}
use Rattle.xt_syntax.specs.declared.exprs.Part.{Part}
use Rattle.xt_syntax.specs.declared.exprs.Clause.TheViews.{out-Expr}
use Rattle.xt_syntax.specs.declared.exprs.Clause.TheOpen.{Expr-F, Or, And, General, Slash, Step, Call}
use Rattle.xt_forms.specs.Quiet.{quiet_call}
use Rattle.xt_forms.specs.declared.quiet_calls.QuietCall.{QuietCall}
use Rattle.xt_forms.specs.declared.quiet_calls.QuietCall.TheVariants as call
use Rattle.node_axes.specs.StepWalks.Nodes.{Focus}
use Rattle.quiet_meaning.specs.Quietly.{Quietly, quietly_of, holds_at}
use Rattle.quiet_meaning.specs.Paths.{nodes_of_form}

abbrev pub Layer : Type 0
Layer = Expr-F Clause Expr NameSource Part Arm Bind DirectAttr FlworOf Order

unfoldable pub is_not : QuietCall → Bool
is_not call.Not = true
is_not f = false

abbrev pub only : List Expr → Option Expr
only [] = None
only (a ∷ []) = Some a
only (a ∷ b ∷ more) = None

-- the predicate within not()
abbrev pub negated_in : Layer → Option Expr
negated_in (Call name args) = if is_not (quiet_call name) then only args else None
negated_in x = None

abbrev pub negated_part : Expr → Option Expr
negated_part e = negated_in (out-Expr e)

-- the path that an expression is, or the one argument of a call
abbrev pub subject_of : Expr → Layer → Option Expr
subject_of e (Call name args) = only args
subject_of e (Slash a b) = Some e
subject_of e (Step along wanted tests) = Some e
subject_of e x = None

abbrev pub subject_part : Expr → Option Expr
subject_part e = subject_of e (out-Expr e)

-- the left side of a comparison
abbrev pub decided_by : Expr → Layer → Option Expr
decided_by e (General op a b) = subject_part a
decided_by e x = subject_of e x

abbrev pub path_part : Expr → Option Expr
path_part e = decided_by e (out-Expr e)

-- the nodes that the path leads to
abbrev pub nodes_at : Option Expr → Place → List Place
nodes_at None n = []
nodes_at (Some p) n = nodes_of_form (quietly_of p) n

-- what `or`, `and` and not() are not
abbrev pub is_junction_in : Layer → Bool
is_junction_in (Or all) = true
is_junction_in (And all) = true
is_junction_in x = false

abbrev pub is_junction : Expr → Bool
is_junction e = is_junction_in (out-Expr e)

abbrev pub or_empty : Option (List ℕ) → List ℕ
or_empty None = []
or_empty (Some t) = t

unfoldable pub is_last : QuietCall → Bool
is_last call.Last = true
is_last f = false

-- the number that a call gives, where its argument leads to so many nodes
abbrev pub call_number : QuietCall → List Expr → ℕ → ℕ → ℕ → ℕ
call_number f [] count position size = if is_last f then size else position
call_number f (a ∷ more) count position size = count

abbrev pub number_at : Layer → ℕ → ℕ → ℕ → Option ℕ
number_at (Call name args) count position size = Some (call_number (quiet_call name) args count position size)
number_at x count position size = None

-- the number that is compared with an integer; no call, no number
abbrev pub subject_number : Expr → ℕ → ℕ → ℕ → Option ℕ
subject_number a = number_at (out-Expr a)

-- whether some of them holds, or else whether all do
abbrev pub decided : Bool → List Quietly → Focus → Bool
decided until all f = if until then list_any (λ q. holds_at q f) all else list_all (λ q. holds_at q f) all
