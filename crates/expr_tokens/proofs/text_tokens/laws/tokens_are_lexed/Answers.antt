use Rattle.expr_tokens.proofs.TextTokens.LexedLemmas.{tokens_lexed}
use Rattle.expr_tokens.proofs.text_tokens.laws.tokens_are_lexed.Goals as goal

pub returns : goal.returns
returns c = tokens_lexed
