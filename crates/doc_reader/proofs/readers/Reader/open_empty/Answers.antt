use Rattle.std.proofs.Common.{◌∙◌}
use Rattle.doc_reader.specs.Frames.{base_of}
use Rattle.doc_reader.proofs.ElementLemmas.{empty_none, empty_stops, empty_closes, takes_next}
use Rattle.doc_reader.proofs.readers.Reader.open_empty.Goals as goal

pub returns-then-not-is_next-clause-ran : goal.returns-then-not-is_next-clause-ran
returns-then-not-is_next-clause-ran c = empty_none _ _ _ c.if-not-is_next.ensures

pub returns-in_default-clause-ran : goal.returns-in_default-clause-ran
returns-in_default-clause-ran c = empty_stops _ _ _ _ c.if-not-is_next.ensures c.in_ok-frame.ensures.source (rw c.in_default.is at c.in_ok-frame.ensures.opens)

pub returns-clause-ran : goal.returns-clause-ran
returns-clause-ran c =
    let r = c.open_frame.new.self in
    let next = rw c.in_ok-frame.ensures.source at (takes_next 62 c.eat-closed.result _ _ (rw c.in_ok-frame.ensures.source c.if-not-is_next.ensures) c.eat-closed.ensures) in
    rw c.in_ok-close.ensures.source
    (empty_closes _ _ _ _ _ (base_of r) _ c.in-Some.frame r.frames.items r.scope next (rw c.in-Some.is at c.in_ok-frame.ensures.opens)
    (c.in_ok-close.ensures.text ∙ c.in_ok-frame.ensures.text ∙ c.requires.text) c.in_ok-close.ensures.opened)
