use Rattle.walk_laws.proofs.QuietValues.Laws.{step_law}
use Rattle.walk_laws.proofs.quiet_values.a_step_with_quiet_predicates_gives_the_nodes_that_they_keep.Goals as goal

pub returns : goal.returns
returns c = step_law
