use Rattle.query_grammar.proofs.Run.{spells_reads}
use Rattle.raw_tokens.proofs.QueryTokens.Spell.{tokens_spell}
use Rattle.raw_tokens.proofs.query_tokens.tokens_are_read_back.Goals as goal

pub returns : goal.returns
returns c = λ q e. spells_reads (tokens_spell q e)
