use Rattle.query_helpers.proofs.HelperCalls.{simple_gives}
use Rattle.query_helpers.proofs.laws.simple_gives_simple_content.Goals as goal

pub returns : goal.returns
returns c = λ run has globals n. simple_gives run globals n has
