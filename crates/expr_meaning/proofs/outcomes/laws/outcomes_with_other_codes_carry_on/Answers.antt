use Rattle.expr_meaning.specs.Outcomes.Follow.{any_code}
use Rattle.expr_meaning.proofs.OutcomesLemmas.Relations.{follows_next, follows_each}
use Rattle.expr_meaning.proofs.outcomes.laws.outcomes_with_other_codes_carry_on.Goals as goal

pub returns-clause-next : goal.returns-clause-next
returns-clause-next g c = follows_next any_code (λ d. tt)

pub returns-clause-each : goal.returns-clause-each
returns-clause-each g c = follows_each any_code (λ d. tt)
