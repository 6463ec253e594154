use Rattle.meaning_laws.proofs.QuietLaws.LawLemmas.{reached_by_step, reached_by_steps}
use Rattle.meaning_laws.proofs.quiet_laws.a_path_reaches_nodes_step_by_step.Goals as goal

pub returns-clause-step : goal.returns-clause-step
returns-clause-step c = reached_by_step

pub returns-clause-steps : goal.returns-clause-steps
returns-clause-steps c = reached_by_steps
