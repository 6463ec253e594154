use Rattle.query_grammar.proofs.Operands.{less_refused}
use Rattle.query_grammar.proofs.no_operand_is_compared.Goals as goal

pub returns : goal.returns
returns c = λ m ts l w a. less_refused m ts l w a
