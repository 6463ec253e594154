use Rattle.std.proofs.Common.{sym, ◌∙◌}
use Rattle.query_pieces.proofs.AnswerLemmas.{touch_found, fault_found, opened_found, spelled_found}
use Rattle.query_pieces.proofs.AskLemmas.{seen}
use Rattle.query_pieces.proofs.pieces.Pieces.read_token.Goals as goal

pub returns-then-touches-clause-answers : goal.returns-then-touches-clause-answers
returns-then-touches-clause-answers c = touch_found _ _ _ _ _ c.self.view_is c.requires.inside
    (sym c.touches.ensures
    ∙ c.if-touches.true)

pub returns-then-opens-clause-answers : goal.returns-then-opens-clause-answers
returns-then-opens-clause-answers c =
    opened_found _ _ _ _ _ _ _ _ _ _ c.self.view_is c.requires.inside (sym c.touches.ensures
    ∙ c.if-touches.false) (seen _ _ _ _ _ _ c.self.view_is c.in-Token.is c.requires.leads) (sym c.opens.ensures
    ∙ c.if-opens.true) c.open.ensures.answers

pub returns-else-opens-clause-answers : goal.returns-else-opens-clause-answers
returns-else-opens-clause-answers c =
    spelled_found _ _ _ _ _ _ _ _ _ _ c.self.view_is c.requires.inside (sym c.touches.ensures
    ∙ c.if-touches.false) (seen _ _ _ _ _ _ c.self.view_is c.in-Token.is c.requires.leads) (sym c.opens.ensures
    ∙ c.if-opens.false) c.spell.ensures.answers

pub returns-in-Fault-clause-answers : goal.returns-in-Fault-clause-answers
returns-in-Fault-clause-answers c = fault_found _ _ _ _ _ _ c.self.view_is c.requires.inside
    (seen _ _ _ _ _ _ c.self.view_is c.in-Fault.is c.requires.leads).1

pub over-requires : goal.over-requires
over-requires c = rw c.in-Over.is at c.requires.leads
