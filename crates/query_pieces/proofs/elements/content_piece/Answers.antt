use Rattle.query_pieces.specs.Elements.{is_content, content_mark}
use Rattle.query_pieces.proofs.ElementLemmas.{marks, finds_same}
use Rattle.query_pieces.proofs.elements.content_piece.Goals as goal

pub returns-in-None : goal.returns-in-None
returns-in-None c =
    finds_same _ _ _ _ c.content_mark.ensures (marks is_content _ _ _ _ content_mark
    c.take_run-run.ensures.run c.take_run-run.ensures.rest c.first.ensures c.in-None.is)
