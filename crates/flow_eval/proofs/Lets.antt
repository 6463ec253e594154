-- A `let` as its variable and then what follows it.
use Rattle.std.proofs.Common.{◌≡◌, ℕ, refl, List, [], ◌∷◌}
use Rattle.std.specs.Prelude.{Result, Ok, Err}
use Rattle.xt_names.specs.declared.codes.Code.{Code}
use Rattle.xt_names.specs.declared.names.ExprName.{ExprName}
use Rattle.xdm_items.specs.declared.items.Item.{Item}
use Rattle.xt_syntax.specs.declared.exprs.Bind.{Bind}
use Rattle.xt_syntax.specs.declared.exprs.Clause.TheViews.{out-Bind}
use Rattle.expr_meaning.specs.Outcomes.Outcome.{Outcome, Ends, Fails, Deep, and_then, step_outcome}
use Rattle.expr_meaning.specs.Env.{Env, Meaning, Program, bind, bind_all}
use Rattle.expr_meaning.specs.Meaning.{outcome}
use Rattle.expr_meaning.specs.Logic.{typed}
use Rattle.eval_steps.specs.Parts.{bind_outcome}
use Rattle.eval_steps.specs.Steps.{bound_outcome}
use Rattle.eval_steps.proofs.Forms.{bind_means}
use Rattle.flow_eval.specs.FlowStreams.Streams.{stream_let}

-- what a list of a type is followed by follows the variable that has it
behind : (name : ExprName) (kind : List Item → Result (List Item) Code) (rest : Meaning)
    (env : Env) (o : Outcome (List Item)) →
    and_then o (λ xs j. and_then (step_outcome (kind xs) j) (λ ys. rest (bind name ys env)))
    ≡ and_then (and_then o (λ xs. bound_outcome name (kind xs)))
    (λ b. rest (bind_all (b ∷ []) env))
behind name kind rest env (Ends xs j) = made (kind xs)
  where
    made : (value : Result (List Item) Code) →
        and_then (step_outcome value j) (λ ys. rest (bind name ys env))
        ≡ and_then (bound_outcome name value j) (λ b. rest (bind_all (b ∷ []) env))
    made (Ok ys) = refl
    made (Err code) = refl
behind name kind rest env (Fails code) = refl
behind name kind rest env Deep = refl

pub let_behind : (p : Program) (clause : Bind) (rest : Meaning) (env : Env) (k : ℕ) →
    stream_let (bind_outcome p clause) rest env k
    ≡ and_then (and_then (outcome p (out-Bind clause).source env k)
    (λ xs. bound_outcome (out-Bind clause).var (typed (out-Bind clause).kind xs)))
    (λ b. rest (bind_all (b ∷ []) env))
let_behind p clause rest env k =
    rw (bind_means p clause)
    (behind (out-Bind clause).var (typed (out-Bind clause).kind) rest env
    (outcome p (out-Bind clause).source env k))
