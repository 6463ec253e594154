use Rattle.walk_laws.proofs.QuietValues.Laws.{value_law, path_law, here_law}
use Rattle.walk_laws.proofs.quiet_values.what_stands_in_a_quiet_predicate_has_a_value.Goals as goal

pub returns-clause-value : goal.returns-clause-value
returns-clause-value c = value_law

pub returns-clause-path : goal.returns-clause-path
returns-clause-path c = path_law

pub returns-clause-here : goal.returns-clause-here
returns-clause-here c = here_law
