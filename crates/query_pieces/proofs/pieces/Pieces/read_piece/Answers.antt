use Rattle.query_pieces.proofs.AnswerLemmas.{piece_found}
use Rattle.query_pieces.proofs.pieces.Pieces.read_piece.Goals as goal

pub returns-in-Some-clause-answers : goal.returns-in-Some-clause-answers
returns-in-Some-clause-answers c =
    piece_found _ _ _ _ _ _ _ _ _ _ _ _ c.self.view_is c.requires.top c.go.ensures
    c.new-scan.ensures c.rest.ensures (rw c.in-Some.is at c.in_ok-token.ensures)
