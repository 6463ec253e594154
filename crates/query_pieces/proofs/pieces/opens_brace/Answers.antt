use Rattle.query_pieces.proofs.SecondLemmas.{brace_found, no_brace_over, no_brace_fault}
use Rattle.query_pieces.proofs.pieces.opens_brace.Goals as goal

pub returns-in-Token : goal.returns-in-Token
returns-in-Token c = λ s us i split. brace_found s _ _ _ _ us _ _ c.in-Token.ensures
    c.is_brace.ensures c.second_by.ensures i split

pub returns-in-Over : goal.returns-in-Over
returns-in-Over c = λ s us i split. no_brace_over s _ us c.in-Over.ensures i split

pub returns-in-Fault : goal.returns-in-Fault
returns-in-Fault c = λ s us i split. no_brace_fault s _ us c.in-Fault.ensures.0
    c.in-Fault.ensures.1 i split
