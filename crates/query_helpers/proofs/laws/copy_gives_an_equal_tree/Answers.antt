use Rattle.query_helpers.proofs.HelperCalls.{copy_gives}
use Rattle.query_helpers.proofs.laws.copy_gives_an_equal_tree.Goals as goal

pub returns : goal.returns
returns c = λ run has globals n. copy_gives run globals n has
