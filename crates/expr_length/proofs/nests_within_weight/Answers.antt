use Rattle.expr_length.proofs.Weighted.{spelled_within, single_within}
use Rattle.expr_length.proofs.nests_within_weight.Goals as goal

pub returns-clause-whole : goal.returns-clause-whole
returns-clause-whole c = λ l ts v s. spelled_within s

pub returns-clause-single : goal.returns-clause-single
returns-clause-single c = λ l ts v s. single_within s
