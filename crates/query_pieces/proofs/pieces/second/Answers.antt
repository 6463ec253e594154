use Rattle.query_pieces.proofs.AskLemmas.{told_none, told_over, told_fault, told_found}
use Rattle.query_pieces.proofs.AskLemmas.{sees_at, told_as}
use Rattle.query_pieces.proofs.pieces.second.Goals as goal

pub returns-in-Some-Token : goal.returns-in-Some-Token
returns-in-Some-Token c = λ p us s split.
    let t = sees_at p _ _ _ c.in-Some-Token.is (rw c.in-Some-Token.is at c.in-Some-Token.field-0-is) s in
    told_found _ _ _ _ c.second_at.ensures p us t.0 t.1 split

pub returns-in-Some-Over : goal.returns-in-Some-Over
returns-in-Some-Over c = told_as _ _ _ _ c.in-Some-Over.is (rw c.in-Some-Over.is at c.in-Some-Over.field-0-is) told_over

pub returns-in-Some-Fault : goal.returns-in-Some-Fault
returns-in-Some-Fault c = told_as _ _ _ _ c.in-Some-Fault.is (rw c.in-Some-Fault.is at c.in-Some-Fault.field-0-is) told_fault

pub returns-in-None : goal.returns-in-None
returns-in-None c = rw c.in-None.is told_none
