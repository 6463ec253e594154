use Rattle.meaning_laws.proofs.QuietLaws.LawLemmas.{integer_law, last_law}
use Rattle.meaning_laws.proofs.quiet_laws.numbers_keep_the_node_at_that_place.Goals as goal

pub returns-clause-integer : goal.returns-clause-integer
returns-clause-integer c = integer_law

pub returns-clause-last : goal.returns-clause-last
returns-clause-last c = last_law
