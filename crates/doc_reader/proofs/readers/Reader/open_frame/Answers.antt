use Rattle.std.proofs.Common.{refl}
use Rattle.doc_reader.specs.Frames.{level_of}
use Rattle.doc_reader.proofs.ElementLemmas.{pushes}
use Rattle.doc_reader.proofs.readers.Reader.open_frame.Goals as goal

pub returns-clause-opens : goal.returns-clause-opens
returns-clause-opens c =
    let r = c.enter.new.self in
    pushes _ _ r.frames.items r.scope _ (level_of r.level) r.kids r.declared _ c.in-Some.opened _ c.in_ok-enter.ensures.scope c.in_ok-enter.ensures.opened (rw c.in-Some.is at c.in_ok-open_tag.ensures) c.in_ok-push-in-Some.ensures.ok (λ st. rw c.new.ensures refl) c.len-declared.ensures
