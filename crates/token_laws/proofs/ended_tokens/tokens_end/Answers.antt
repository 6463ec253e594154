use Rattle.token_laws.proofs.EndedTokens.Parts.{sequence_ends}
use Rattle.token_laws.proofs.EndedTokens.Forms.{printable_ends}
use Rattle.token_laws.proofs.ended_tokens.tokens_end.Goals as goal

pub returns-clause-whole : goal.returns-clause-whole
returns-clause-whole c = λ p e ts rest h. (printable_ends p e h).ends ts rest

pub returns-clause-kind : goal.returns-clause-kind
returns-clause-kind c = λ p t ts rest h. (sequence_ends p t h).ends ts rest
