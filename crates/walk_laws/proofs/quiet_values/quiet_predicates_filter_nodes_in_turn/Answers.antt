use Rattle.walk_laws.proofs.QuietValues.Laws.{list_law, turn_law, axis_law, filter_law}
use Rattle.walk_laws.proofs.quiet_values.quiet_predicates_filter_nodes_in_turn.Goals as goal

pub returns-clause-one : goal.returns-clause-one
returns-clause-one c = list_law

pub returns-clause-all : goal.returns-clause-all
returns-clause-all c = turn_law

pub returns-clause-axis : goal.returns-clause-axis
returns-clause-axis c = axis_law

pub returns-clause-filter : goal.returns-clause-filter
returns-clause-filter c = filter_law
