use Rattle.raw_tokens.proofs.Follows.{tokens_before}
use Rattle.raw_tokens.proofs.tokens_stand_before.Goals as goal

pub returns : goal.returns
returns c = tokens_before
