use Rattle.std.proofs.Common.{refl}
use Rattle.expr_meaning.specs.Outcomes.Follow.{same_code}
use Rattle.expr_meaning.proofs.OutcomesLemmas.Relations.{follows_next, follows_each}
use Rattle.expr_meaning.proofs.outcomes.laws.outcomes_with_more_calls_carry_on.Goals as goal

pub returns-clause-next : goal.returns-clause-next
returns-clause-next g c = follows_next same_code (λ d. refl)

pub returns-clause-each : goal.returns-clause-each
returns-clause-each g c = follows_each same_code (λ d. refl)
