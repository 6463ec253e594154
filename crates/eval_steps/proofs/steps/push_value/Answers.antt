use Rattle.eval_steps.proofs.steps.push_value.Goals as goal

pub returns : goal.returns
returns c =
    λ k. (
      c.in_ok-variable.variable,
      c.in_ok-push_variable.ensures,
      c.in_ok-variable.ensures k,
    )
