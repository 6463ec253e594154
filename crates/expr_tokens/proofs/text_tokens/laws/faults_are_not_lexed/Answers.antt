use Rattle.expr_tokens.proofs.TextTokens.LexedLemmas.{faults_not_lexed}
use Rattle.expr_tokens.proofs.text_tokens.laws.faults_are_not_lexed.Goals as goal

pub returns : goal.returns
returns c = faults_not_lexed
