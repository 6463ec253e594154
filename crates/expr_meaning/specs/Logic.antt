-- Expressions that decide (XPath 2.0, 3.6, 3.8 and 3.9).
use Rattle.std.specs.Prelude.{ℕ, List, [], ◌∷◌, Bool, true, false, not, if◌then◌else◌}
use Rattle.std.specs.Bool.{beq}
use Rattle.std.specs.Prelude.{Option, Some, None, Result, Ok}
use Rattle.xt_names.specs.declared.codes.Code.{Code}
use Rattle.xt_names.specs.declared.names.ExprName.{ExprName}
use Rattle.xt_types.specs.declared.types.SeqType.{SeqType}
use Rattle.xdm_items.specs.declared.items.Item.{Item}
use Rattle.xdm_items.specs.Conversion.{matched}
use Rattle.xdm_items.specs.Truth.{truth_of}
use Rattle.xdm_items.specs.FunctionArguments.Answers.{of_truth}
use Rattle.expr_meaning.specs.Outcomes.Outcome.{Outcome, Ends, and_then, step_outcome}
use Rattle.expr_meaning.specs.Env.{Env, Meaning, bind}

-- the truth value of an expression
abbrev pub truth_at : Meaning → Env → ℕ → Outcome Bool
truth_at m env k = and_then (m env k) (λ xs j. step_outcome (truth_of xs) j)

-- the truth value where it decides, or else what comes behind
abbrev pub unless : Bool → (ℕ → Outcome Bool) → Bool → ℕ → Outcome Bool
unless decisive rest t k = if beq t decisive then Ends t k else rest k

-- truth values in order until one is the decisive one
abbrev pub first_of : Bool → List Meaning → Env → ℕ → Outcome Bool
first_of decisive [] env k = Ends (not decisive) k
first_of decisive (m ∷ ms) env k =
    and_then (truth_at m env k) (unless decisive (first_of decisive ms env))

abbrev pub as_items : Outcome Bool → Outcome (List Item)
as_items o = and_then o (λ t j. Ends (of_truth t) j)

-- `or` and `and`
abbrev pub or_of : List Meaning → Meaning
or_of ms env k = as_items (first_of true ms env k)

abbrev pub and_of : List Meaning → Meaning
and_of ms env k = as_items (first_of false ms env k)

-- the first by its test, or the second
abbrev pub chosen : Meaning → Meaning → Env → Bool → ℕ → Outcome (List Item)
chosen first other env t k = if t then first env k else other env k

abbrev pub either_of : Meaning → Meaning → Meaning → Meaning
either_of test first other env k = and_then (truth_at test env k) (chosen first other env)

-- the first arm whose test is true
abbrev pub choice_of : List (Meaning × Meaning) → Meaning → Meaning
choice_of [] other = other
choice_of (arm ∷ arms) other = either_of arm.0 arm.1 (choice_of arms other)

-- a variable, its type where it has one, and where its value comes from
pub record Bound : Type 0 where
  pub var : ExprName
  pub kind : Option SeqType
  pub source : Meaning

-- the items where they are of the type, if there is one
abbrev pub typed : Option SeqType → List Item → Result (List Item) Code
typed None xs = Ok xs
typed (Some type) xs = matched type (Ok xs)

-- one item after another, until the rest is the decisive truth value at one
abbrev pub item_decides :
    Bool → Bound → (Env → ℕ → Outcome Bool) → Env → List Item → ℕ → Outcome Bool
item_decides decisive b rest env [] k = Ends (not decisive) k
item_decides decisive b rest env (x ∷ xs) k =
    and_then (step_outcome (typed b.kind (x ∷ [])) k) (λ ys j.
    and_then (rest (bind b.var ys env) j) (unless decisive (item_decides decisive b rest env xs)))

-- the bindings, the first outermost
abbrev pub quantified : Bool → List Bound → Meaning → Env → ℕ → Outcome Bool
quantified decisive [] test env k = truth_at test env k
quantified decisive (b ∷ bs) test env k =
    and_then (b.source env k) (item_decides decisive b (quantified decisive bs test) env)

-- `some`, and `every` where it is true
abbrev pub quantifier_of : Bool → List Bound → Meaning → Meaning
quantifier_of every bs test env k = as_items (quantified (not every) bs test env k)
