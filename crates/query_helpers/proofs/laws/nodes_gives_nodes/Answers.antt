use Rattle.query_helpers.proofs.HelperCalls.{nodes_gives}
use Rattle.query_helpers.proofs.laws.nodes_gives_nodes.Goals as goal

pub returns : goal.returns
returns c = λ run has globals n. nodes_gives run globals n has
