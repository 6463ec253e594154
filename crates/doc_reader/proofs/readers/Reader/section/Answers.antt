use Rattle.doc_reader.proofs.ContentLemmas.{inside}
use Rattle.doc_reader.proofs.MarkupReads.{no_section, section_said, section_stops}
use Rattle.doc_reader.proofs.readers.Reader.section.Goals as goal

pub returns-then-not-eat-clause-ran : goal.returns-then-not-eat-clause-ran
returns-then-not-eat-clause-ran c = no_section _ _ _ _ (inside c.args.self.now.frames.items c.args.self.now.scope _ c.requires.element) c.requires.no_comment c.if-not-eat.ensures

pub returns-then-branch-clause-ran : goal.returns-then-branch-clause-ran
returns-then-branch-clause-ran c =
    let k = rw c.if-branch.true at c.in_ok-section.ensures.reads in
    section_said _ _ _ _ _ _ _ (inside c.args.self.now.frames.items c.args.self.now.scope _ c.requires.element) c.if-not-eat.ensures k.1 k.2

pub returns-else-branch-clause-ran : goal.returns-else-branch-clause-ran
returns-else-branch-clause-ran c =
    section_stops _ _ _ _ _ (inside c.args.self.now.frames.items c.args.self.now.scope _ c.requires.element) c.if-not-eat.ensures (rw c.if-branch.false at c.in_ok-section.ensures.reads)
