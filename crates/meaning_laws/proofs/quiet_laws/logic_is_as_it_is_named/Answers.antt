use Rattle.meaning_laws.proofs.QuietLaws.LawLemmas.{or_law, and_law, not_law, constant_law}
use Rattle.meaning_laws.proofs.quiet_laws.logic_is_as_it_is_named.Goals as goal

pub returns-clause-or : goal.returns-clause-or
returns-clause-or c = or_law

pub returns-clause-and : goal.returns-clause-and
returns-clause-and c = and_law

pub returns-clause-not : goal.returns-clause-not
returns-clause-not c = not_law

pub returns-clause-constant : goal.returns-clause-constant
returns-clause-constant c = constant_law
