use Rattle.std.proofs.Common.{◌∙◌}
use Rattle.doc_reader.specs.Frames.{base_of}
use Rattle.doc_reader.proofs.ElementLemmas.{full_stops, full_opens, takes_next}
use Rattle.doc_reader.proofs.readers.Reader.open_full.Goals as goal

pub returns-in_default-clause-ran : goal.returns-in_default-clause-ran
returns-in_default-clause-ran c = full_stops _ _ _ _ c.requires.closes c.in_ok-frame.ensures.source (rw c.in_default.is at c.in_ok-frame.ensures.opens)

pub returns-clause-ran : goal.returns-clause-ran
returns-clause-ran c =
    let r = c.open_frame.new.self in
    let next = rw c.in_ok-frame.ensures.source at (takes_next 62 c.eat-closed.result _ _ (rw c.in_ok-frame.ensures.source c.requires.closes) c.eat-closed.ensures) in
    full_opens _ _ _ _ _ (base_of r) c.in-Some.frame r.frames.items _ r.scope next (rw c.in-Some.is at c.in_ok-frame.ensures.opens) c.in_ok-push.ensures.items (c.in_ok-frame.ensures.text ∙ c.requires.text)
