use Rattle.expr_meaning.proofs.OutcomesLemmas.Steps.{then_assoc}
use Rattle.expr_meaning.proofs.outcomes.laws.outcomes_are_joined_from_either_end.Goals as goal

pub returns : goal.returns
returns g c = then_assoc
