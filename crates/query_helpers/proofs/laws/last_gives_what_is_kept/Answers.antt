use Rattle.query_helpers.proofs.HelperCalls.{last_gives}
use Rattle.query_helpers.proofs.laws.last_gives_what_is_kept.Goals as goal

pub returns : goal.returns
returns c = λ run has globals n. last_gives run globals n has
