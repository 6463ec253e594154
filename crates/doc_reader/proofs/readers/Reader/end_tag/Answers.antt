use Rattle.std.proofs.Common.{refl, arith}
use Rattle.doc_reader.specs.Frames.{base_of, level_of}
use Rattle.doc_reader.proofs.FrameLemmas.{no_items}
use Rattle.doc_reader.proofs.ElementLemmas.{end_at_ground, end_fails, end_closes, takes_next}
use Rattle.doc_reader.proofs.readers.Reader.end_tag.Goals as goal

pub returns-in-None-clause-ran : goal.returns-in-None-clause-ran
returns-in-None-clause-ran c =
    let r = c.flush.new.self in
    end_at_ground _ _ _ _ _ r.frames.items r.scope (level_of r.level) r.kids r.declared c.requires c.in_ok-flush.ensures.source c.in_ok-flush.ensures.opened refl (no_items r.frames.items (omega (arith, c.in-None.ensures.cases.0)))

pub returns-in_ok-close-in-Some-clause-ran : goal.returns-in_ok-close-in-Some-clause-ran
returns-in_ok-close-in-Some-clause-ran c =
    let r = c.flush.new.self in
    rw (c.in_ok-close-in-Some.ensures.source, c.in_ok-close-in-Some.ensures.text, c.in_ok-flush.ensures.text)
    (end_closes _ _ _ _ _ _ _ r.frames.items c.pop.new.self.items c.in-Some.frame r.scope (base_of r)
    (takes_next 47 c.eat-slash.result _ _ c.requires (rw c.in_ok-flush.ensures.source at c.eat-slash.ensures)) c.in_ok-flush.ensures.opened refl c.in-Some.ensures.items c.if-end_tag.ensures.ends c.in_ok-close-in-Some.ensures.opened)

pub returns-else-end_tag-clause-ran : goal.returns-else-end_tag-clause-ran
returns-else-end_tag-clause-ran c =
    let r = c.flush.new.self in
    end_fails _ _ _ _ _ _ r.frames.items c.pop.new.self.items c.in-Some.frame r.scope (base_of r)
    (takes_next 47 c.eat-slash.result _ _ c.requires (rw c.in_ok-flush.ensures.source at c.eat-slash.ensures)) c.in_ok-flush.ensures.opened refl c.in-Some.ensures.items c.if-end_tag.ensures.ends
