-- What a call of the evaluator answers.
use Rattle.std.specs.Prelude.{◌≡◌, ℕ, Result, Ok, Err}
use Rattle.xt_tree.specs.declared.trees.Tree.{Tree}
use Rattle.sheet_meaning.specs.Outcome.{Outcome, Ends, Fails, Deep as past_depth}
use Rattle.sheet_meaning.specs.Meaning.{transform_meaning}
use Rattle.eval_scopes.specs.declared.faults.EvalFault.{EvalFault}
use Rattle.eval_scopes.specs.declared.faults.EvalFault.TheVariants.{Error, Deep, Memory}
use Rattle.xslt_run.specs.Content.{Built}

-- the fault stands for the outcome, unless memory ran out
abbrev pub IsFaultOf : {A : Type 0} → EvalFault → Outcome A → Type 0
IsFaultOf (Error code) o = o ≡ Fails code
IsFaultOf Deep o = o ≡ past_depth
IsFaultOf (Memory e) o = Unit {0}

-- the answer stands for the outcome, with the content as it is then
abbrev pub Grows : Result (Unit {0}) EvalFault → Built → Outcome Built → Type 0
Grows (Ok u) content o = o ≡ Ends content
Grows (Err fault) content o = IsFaultOf fault o

-- the answer stands for the outcome
abbrev pub Makes : Result Tree EvalFault → Outcome Tree → Type 0
Makes (Ok t) o = o ≡ Ends t
Makes (Err fault) o = IsFaultOf fault o

-- why there is no result tree: the error of the stylesheet on the document, or too many calls open at once
abbrev pub HasEvalCause : Tree → Tree → ℕ → EvalFault → Type 0
HasEvalCause sheet document depth fault = IsFaultOf fault (transform_meaning sheet document depth)
