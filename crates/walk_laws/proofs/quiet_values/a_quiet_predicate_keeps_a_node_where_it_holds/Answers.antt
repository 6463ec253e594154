use Rattle.walk_laws.proofs.QuietValues.Laws.{decision_law, item_law, quiet_by_test, quiet_in_patterns}
use Rattle.walk_laws.proofs.quiet_values.a_quiet_predicate_keeps_a_node_where_it_holds.Goals as goal

pub returns-clause-decides : goal.returns-clause-decides
returns-clause-decides c = decision_law

pub returns-clause-keeps : goal.returns-clause-keeps
returns-clause-keeps c = item_law

pub returns-clause-tested : goal.returns-clause-tested
returns-clause-tested c = quiet_by_test

pub returns-clause-allowed : goal.returns-clause-allowed
returns-clause-allowed c = quiet_in_patterns
