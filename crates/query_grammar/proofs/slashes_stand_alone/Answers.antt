use Rattle.query_grammar.proofs.Operands.{slash_leads}
use Rattle.query_grammar.proofs.slashes_stand_alone.Goals as goal

pub returns : goal.returns
returns c = λ m n t ts l e a. slash_leads m n t ts l e a
