use Rattle.query_pieces.proofs.AnswerLemmas.{spell_goes, spell_stuck}
use Rattle.query_pieces.proofs.pieces.Pieces.spell.Goals as goal

pub returns-in-Some-clause-answers : goal.returns-in-Some-clause-answers
returns-in-Some-clause-answers c = spell_goes _ _ _ _ _ _ _ _ c.go.ensures
    c.change_of-change.ensures
    (rw c.in-Some.is at c.in_ok-token.ensures)

pub returns-in-None-clause-answers : goal.returns-in-None-clause-answers
returns-in-None-clause-answers c = spell_stuck _ _ _ _ (rw c.in-None.is at c.in_ok-token.ensures)
