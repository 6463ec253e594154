use Rattle.sheet_meaning.proofs.Last.{best_is_last}
use Rattle.sheet_meaning.proofs.laws.last_match_is_best.Goals as goal

pub returns : goal.returns
returns c = best_is_last
