use Rattle.query_grammar.proofs.Operands.{outer_refused}
use Rattle.query_grammar.proofs.elements_are_operands.Goals as goal

pub returns : goal.returns
returns c = λ m p n ts l w. outer_refused m p n ts l w
