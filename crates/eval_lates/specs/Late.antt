-- Answers that are sequences (XPath 2.0, 2.3.1).
use Rattle.std.specs.Prelude.{◌≡◌, ℕ, ℤ, List, [], ◌∷◌, Option, None, Some, Result, Ok, Err}
use Rattle.xt_atoms.specs.declared.atoms.Atom.TheVariants as atom
use Rattle.xdm_items.specs.declared.items.Item.{Item}
use Rattle.xdm_items.specs.declared.items.Item.TheVariants.{Atom}
use Rattle.eval_scopes.specs.NodeWalks.Moves.{given}
use Rattle.eval_scopes.specs.LazySeq.Flow.{Flow}
use Rattle.expr_meaning.specs.Outcomes.Outcome.{Outcome, Ends}
use Rattle.expr_meaning.specs.Env.{Meaning}
use Rattle.expr_meaning.specs.Values.{just}
use Rattle.eval_scopes.specs.declared.faults.EvalFault.{EvalFault}
use Rattle.eval_scopes.specs.Answers.{IsFaultOf}

-- the answer stands for the outcome, whose list is what the sequence gives
abbrev pub AnswersLate : Result Flow EvalFault → ℕ → Outcome (List Item) → Type 0
AnswersLate (Ok s) k o = o ≡ Ends (given s.moves) k
AnswersLate (Err fault) k o = IsFaultOf fault o

-- a literal integer
abbrev pub literal : ℤ → Meaning
literal n = just (Atom (atom.Int n) ∷ [])

-- the first item is taken out, where there is one
abbrev pub IsNext : Option Item → List Item → List Item → Type 0
IsNext None before after = before ≡ []
IsNext (Some x) before after = before ≡ x ∷ after
