use Rattle.piece_laws.proofs.Splitting.{splits_weight}
use Rattle.piece_laws.proofs.tokens_weigh_no_more.Goals as goal

pub returns : goal.returns
returns c = splits_weight
