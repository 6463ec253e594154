-- When an answer stands for an outcome.
use Rattle.std.specs.Prelude.{◌≡◌, ℕ, Result, Ok, Err}
use Rattle.expr_meaning.specs.Outcomes.Outcome.{Outcome, Ends, Fails}
use Rattle.expr_meaning.specs.Outcomes.Outcome.{Deep as NoCallLeft}
use Rattle.eval_scopes.specs.declared.faults.EvalFault.{EvalFault}
use Rattle.eval_scopes.specs.declared.faults.EvalFault.TheVariants.{Error, Deep, Memory}

-- the fault stands for the outcome, unless memory ran out
abbrev pub IsFaultOf : {A : Type 0} → EvalFault → Outcome A → Type 0
IsFaultOf (Error code) o = o ≡ Fails code
IsFaultOf Deep o = o ≡ NoCallLeft
IsFaultOf (Memory e) o = Unit {0}

-- the answer stands for the outcome, with the next number of a tree
abbrev pub Answers : {A : Type 0} → Result A EvalFault → ℕ → Outcome A → Type 0
Answers (Ok v) k o = o ≡ Ends v k
Answers (Err fault) k o = IsFaultOf fault o
