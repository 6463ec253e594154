-- When what a call leaves with its caller stands for an outcome.
use Rattle.std.specs.Prelude.{◌≡◌, ℕ, Result, Ok, Err}
use Rattle.expr_meaning.specs.Outcomes.Outcome.{Outcome, Ends}
use Rattle.eval_lates.specs.EvalScopes.declared.faults.EvalFault.{EvalFault}
use Rattle.eval_lates.specs.EvalScopes.Answers.{IsFaultOf}

-- a call that ends has left this value, with the next number of a tree; one that does not leaves none
abbrev pub Leaves : {A : Type 0} → Result (Unit {0}) EvalFault → A → ℕ → Outcome A → Type 0
Leaves (Ok u) v k o = o ≡ Ends v k
Leaves (Err fault) v k o = IsFaultOf fault o
