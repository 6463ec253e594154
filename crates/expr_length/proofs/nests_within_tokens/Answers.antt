use Rattle.expr_length.proofs.Within.{spelled_within}
use Rattle.expr_length.proofs.nests_within_tokens.Goals as goal

pub returns : goal.returns
returns c = λ l ts v s. spelled_within s
