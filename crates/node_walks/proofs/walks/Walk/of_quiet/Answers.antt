use Rattle.std.proofs.Common.{ap, ◌∙◌}
use Rattle.node_walks.specs.Moves.{given}
use Rattle.node_walks.proofs.KeptLemmas.{quiet_gives}
use Rattle.node_walks.proofs.walks.Walk.of_quiet.Goals as goal

pub returns-clause-items : goal.returns-clause-items
returns-clause-items c = λ h. ap given c.in_ok-walk.ensures ∙ quiet_gives c.args.cursor c.args.tests h
