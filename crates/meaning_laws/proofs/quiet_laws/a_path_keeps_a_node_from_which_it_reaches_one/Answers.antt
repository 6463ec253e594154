use Rattle.meaning_laws.proofs.QuietLaws.LawLemmas.{path_law, exists_law, empty_law}
use Rattle.meaning_laws.proofs.quiet_laws.a_path_keeps_a_node_from_which_it_reaches_one.Goals as goal

pub returns-clause-path : goal.returns-clause-path
returns-clause-path c = path_law

pub returns-clause-exists : goal.returns-clause-exists
returns-clause-exists c = exists_law

pub returns-clause-empty : goal.returns-clause-empty
returns-clause-empty c = empty_law
