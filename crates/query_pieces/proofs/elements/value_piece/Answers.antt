use Rattle.std.proofs.Common.{ap, ◌∙◌}
use Rattle.query_pieces.specs.Elements.{is_value, mark_of, value_mark}
use Rattle.query_pieces.proofs.ElementLemmas.{marks, runs, finds_same, finds_run}
use Rattle.query_pieces.proofs.elements.value_piece.Goals as goal

pub returns-in-Some : goal.returns-in-Some
returns-in-Some c =
    finds_run _ _ _ _ c.literal.ensures (runs (is_value c.args.quote) _ _ _ _ c.in-Some.field-0 _
    c.take_value-run.ensures.run c.take_value-run.ensures.rest c.first.ensures c.in-Some.is)

pub returns-in-None : goal.returns-in-None
returns-in-None c =
    finds_same _ _ _ _ c.value_mark.ensures (ap (λ q. value_mark q c.take_value-run.new.self)
    c.mark.ensures ∙ marks (is_value c.args.quote) _ _ _ _ (value_mark
    (mark_of c.args.quote)) c.take_value-run.ensures.run c.take_value-run.ensures.rest
    c.first.ensures c.in-None.is)
