use Rattle.raw_tokens.proofs.Derive.{tokens_derive as law}
use Rattle.raw_tokens.proofs.tokens_derive.Goals as goal

pub returns : goal.returns
returns c = law
