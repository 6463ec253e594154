use Rattle.raw_tokens.proofs.QueryTokens.Spell.{tokens_spell as law}
use Rattle.raw_tokens.proofs.query_tokens.tokens_spell.Goals as goal

pub returns : goal.returns
returns c = law
