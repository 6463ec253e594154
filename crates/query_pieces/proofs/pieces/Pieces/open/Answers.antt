use Rattle.query_pieces.proofs.AnswerLemmas.{open_goes}
use Rattle.query_pieces.proofs.pieces.Pieces.open.Goals as goal

pub returns-in_ok-local-in-Some-clause-answers : goal.returns-in_ok-local-in-Some-clause-answers
returns-in_ok-local-in-Some-clause-answers c =
    open_goes _ _ _ _ _ _ _ c.go.ensures
    (rw (
      c.in_ok-prefix-in-Some.ensures.ok,
      c.in_ok-local-in-Some.ensures.ok,
      c.rest.ensures,
      ←
          c.new-scan.ensures,
    ) c.in-Some.ensures)
