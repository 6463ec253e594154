-- What is bound, and then what follows it.
use Rattle.std.proofs.Common.{◌≡◌, ℕ, refl, ap, sym, ◌∙◌, List, [], ◌∷◌}
use Rattle.std.specs.Prelude.{Result, Ok, Err, pos, Option, Some, None}
use Rattle.xt_names.specs.declared.codes.Code.{Code}
use Rattle.xt_names.specs.declared.names.ExprName.{ExprName}
use Rattle.xdm_items.specs.declared.items.Item.{Item}
use Rattle.xt_syntax.specs.declared.exprs.Bind.{Bind}
use Rattle.xt_syntax.specs.declared.exprs.Clause.TheViews.{out-Bind}
use Rattle.xdm_items.specs.FunctionArguments.Answers.{of_integer}
use Rattle.expr_meaning.specs.Outcomes.Outcome.{Outcome, Ends, and_then, for_each, step_outcome}
use Rattle.expr_meaning.specs.SortMeaning.Sorted.{Placed, places}
use Rattle.expr_meaning.specs.Env.{Binding, Env, Meaning, Program, bind_all}
use Rattle.expr_meaning.specs.Meaning.{outcome}
use Rattle.expr_meaning.specs.Logic.{Bound, typed}
use Rattle.eval_scopes.specs.declared.faults.EvalFault.{EvalFault}
use Rattle.eval_scopes.specs.Answers.{IsFaultOf}
use Rattle.eval_steps.specs.Parts.{bind_outcome}
use Rattle.eval_steps.specs.Steps.{bound_outcome}
use Rattle.eval_steps.proofs.Forms.{bind_means}
use Rattle.eval_steps.proofs.Follow.{fault_first}
use Rattle.flow_eval.specs.FlowStreams.Streams.{stream_item, stream_place, stream_for, stream_let}

-- what goes on from a value goes on from the variable that has it
pub from_bound : {B : Type 0} (name : ExprName) (value : Result (List Item) Code) (k : ℕ)
    (go : Binding → ℕ → Outcome B) →
    and_then (step_outcome value k) (λ ys. go (name, ys))
    ≡ and_then (bound_outcome name value k) go
from_bound name (Ok xs) k go = refl
from_bound name (Err code) k go = refl

-- an item of a `for` whose variable is made
module _ (p : Program) (clause : Bind) (rest : Meaning) (env : Env) (x : Item) (k : ℕ) where
  pub item_streams : (v : Binding) →
      bound_outcome (out-Bind clause).var (typed (out-Bind clause).kind (x ∷ [])) k ≡ Ends v k →
      stream_item (bind_outcome p clause) rest env x k ≡ rest (bind_all (v ∷ []) env) k
  item_streams v h =
      rw (
        bind_means p clause,
        from_bound (out-Bind clause).var
            (typed (out-Bind clause).kind (x ∷ [])) k (λ b. rest (bind_all (b ∷ []) env)),
        h,
      ) refl

  pub item_fails : (g : EvalFault) →
      IsFaultOf g (bound_outcome (out-Bind clause).var (typed (out-Bind clause).kind (x ∷ [])) k) →
      IsFaultOf g (stream_item (bind_outcome p clause) rest env x k)
  item_fails g h =
      rw (
        bind_means p clause,
        from_bound (out-Bind clause).var
            (typed (out-Bind clause).kind (x ∷ [])) k (λ b. rest (bind_all (b ∷ []) env)),
      )
      (fault_first g _ _ h)

-- the same with its position
module _ (p : Program) (clause : Bind) (at : ExprName) (rest : Meaning) (env : Env)
    (f : Placed Item) (k : ℕ) where
  pub place_streams : (v : Binding) →
      bound_outcome (out-Bind clause).var (typed (out-Bind clause).kind (f.value ∷ [])) k
      ≡ Ends v k →
      stream_place (bind_outcome p clause) at rest env f k
      ≡ rest (bind_all ((at, of_integer (pos f.place)) ∷ v ∷ []) env) k
  place_streams v h =
      rw (
        bind_means p clause,
        from_bound (out-Bind clause).var
            (typed (out-Bind clause).kind (f.value ∷ [])) k
            (λ b. rest (bind_all ((at, of_integer (pos f.place)) ∷ b ∷ []) env)),
        h,
      ) refl

  pub place_fails : (g : EvalFault) →
      IsFaultOf g (bound_outcome (out-Bind clause).var
      (typed (out-Bind clause).kind (f.value ∷ [])) k) →
      IsFaultOf g (stream_place (bind_outcome p clause) at rest env f k)
  place_fails g h =
      rw (
        bind_means p clause,
        from_bound (out-Bind clause).var
            (typed (out-Bind clause).kind (f.value ∷ [])) k
            (λ b. rest (bind_all ((at, of_integer (pos f.place)) ∷ b ∷ []) env)),
      )
      (fault_first g _ _ h)

-- a `let` or a `for`, from its list on
module _ (p : Program) (clause : Bind) (rest : Meaning) (env : Env) (k : ℕ) where
  pub let_streams : (xs : List Item) (j : ℕ) (v : Binding) →
      outcome p (out-Bind clause).source env k ≡ Ends xs j →
      bound_outcome (out-Bind clause).var (typed (out-Bind clause).kind xs) j ≡ Ends v j →
      stream_let (bind_outcome p clause) rest env k ≡ rest (bind_all (v ∷ []) env) j
  let_streams xs j v e h =
      rw (
        bind_means p clause,
        e,
        from_bound (out-Bind clause).var
            (typed (out-Bind clause).kind xs) j (λ b. rest (bind_all (b ∷ []) env)),
        h,
      ) refl

  pub let_value_fails : (g : EvalFault) (xs : List Item) (j : ℕ) →
      outcome p (out-Bind clause).source env k ≡ Ends xs j →
      IsFaultOf g (bound_outcome (out-Bind clause).var (typed (out-Bind clause).kind xs) j) →
      IsFaultOf g (stream_let (bind_outcome p clause) rest env k)
  let_value_fails g xs j e h =
      rw (
        bind_means p clause,
        e,
        from_bound (out-Bind clause).var
            (typed (out-Bind clause).kind xs) j (λ b. rest (bind_all (b ∷ []) env)),
      ) (fault_first g _ _ h)

  pub let_fails : (g : EvalFault) → IsFaultOf g (outcome p (out-Bind clause).source env k) →
      IsFaultOf g (stream_let (bind_outcome p clause) rest env k)
  let_fails g h = rw (bind_means p clause) (fault_first g _ _ h)

  pub for_fails : (at : Option ExprName) (g : EvalFault) →
      IsFaultOf g (outcome p (out-Bind clause).source env k) →
      IsFaultOf g (stream_for (bind_outcome p clause) at rest env k)
  for_fails None g h = rw (bind_means p clause) (fault_first g _ _ h)
  for_fails (Some at) g h = rw (bind_means p clause) (fault_first g _ _ h)

  pub for_turns : (xs : List Item) (j : ℕ) → outcome p (out-Bind clause).source env k ≡ Ends xs j →
      stream_for (bind_outcome p clause) None rest env k
      ≡ for_each (stream_item (bind_outcome p clause) rest env) xs j
  for_turns xs j e =
      ap (λ (m : Meaning). and_then (m env k)
      (for_each (stream_item (bind_outcome p clause) rest env)))
      (ap (λ (b : Bound). b.source) (bind_means p clause))
      ∙ ap (λ o. and_then o (for_each (stream_item (bind_outcome p clause) rest env))) e

  pub for_places : (xs : List Item) (j : ℕ) (at : ExprName) →
      outcome p (out-Bind clause).source env k ≡ Ends xs j →
      stream_for (bind_outcome p clause) (Some at) rest env k
      ≡ and_then (step_outcome (places xs) j)
      (for_each (stream_place (bind_outcome p clause) at rest env))
  for_places xs j at e =
      ap (λ (m : Meaning). and_then (m env k) (λ ys i.
      and_then (step_outcome (places ys) i)
      (for_each (stream_place (bind_outcome p clause) at rest env))))
      (ap (λ (b : Bound). b.source) (bind_means p clause))
      ∙ ap (λ o. and_then o (λ ys i. and_then (step_outcome (places ys) i)
      (for_each (stream_place (bind_outcome p clause) at rest env)))) e
