use Rattle.std.proofs.Common.{◌≡◌, ◌∙◌, sym, ap}
use Rattle.expr_meaning.specs.Outcomes.Outcome.{step_outcome}
use Rattle.eval_scopes.specs.Scopes.{value_at}
use Rattle.eval_lates.proofs.variables.late_variable.Goals as goal

pub returns-in_ok-copy-in-Ok : goal.returns-in_ok-copy-in-Ok
returns-in_ok-copy-in-Ok c =
    λ calls keys k. rw (c.in_ok-copy-in-Ok.ensures, ← c.variable.ensures calls keys)
    (ap (λ r. step_outcome (value_at r) k) c.in-Ok.is)

pub returns-in-Err : goal.returns-in-Err
returns-in-Err c =
    λ calls keys k. rw (← c.variable.ensures calls keys)
    (ap (λ r. step_outcome (value_at r) k) c.in-Err.is)
