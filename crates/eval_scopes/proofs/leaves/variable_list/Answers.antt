use Rattle.std.proofs.Common.{ap}
use Rattle.expr_meaning.specs.Outcomes.Outcome.{step_outcome}
use Rattle.eval_scopes.specs.Scopes.{value_at}
use Rattle.eval_scopes.proofs.leaves.variable_list.Goals as goal

pub returns-in_ok-listed-in-Ok : goal.returns-in_ok-listed-in-Ok
returns-in_ok-listed-in-Ok c =
    λ calls keys k. rw (
      c.in_ok-listed-in-Ok.ensures,
      ← c.variable.ensures calls keys,
    ) (ap (λ r. step_outcome (value_at r) k) c.in-Ok.is)

pub returns-in-Err : goal.returns-in-Err
returns-in-Err c =
    λ calls keys k. rw (← c.variable.ensures calls keys)
    (ap (λ r. step_outcome (value_at r) k) c.in-Err.is)
