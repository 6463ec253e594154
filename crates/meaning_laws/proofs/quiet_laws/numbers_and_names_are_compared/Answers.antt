use Rattle.meaning_laws.proofs.QuietLaws.LawLemmas.{position_law, size_law, count_law, name_law}
use Rattle.meaning_laws.proofs.quiet_laws.numbers_and_names_are_compared.Goals as goal

pub returns-clause-position : goal.returns-clause-position
returns-clause-position c = position_law

pub returns-clause-last : goal.returns-clause-last
returns-clause-last c = size_law

pub returns-clause-count : goal.returns-clause-count
returns-clause-count c = count_law

pub returns-clause-name : goal.returns-clause-name
returns-clause-name c = name_law
