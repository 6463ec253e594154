use Rattle.carried_exprs.proofs.Nesting.{nest_carried}
use Rattle.carried_exprs.proofs.laws.carried_expressions_nest_two_levels_more_at_most.Goals as goal

pub returns : goal.returns
returns c = λ w e s. nest_carried w e s
