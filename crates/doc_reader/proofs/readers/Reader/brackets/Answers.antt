use Rattle.doc_reader.proofs.ContentLemmas.{inside}
use Rattle.doc_reader.proofs.TextReads.{one_bracket, two_brackets, section_end}
use Rattle.doc_reader.proofs.readers.Reader.brackets.Goals as goal
use Rattle.doc_reader.proofs.ElementLemmas.{takes_next}

pub returns-then-not-eat-clause-ran : goal.returns-then-not-eat-clause-ran
returns-then-not-eat-clause-ran c =
    one_bracket _ _ _ _ _ _ (inside c.args.self.now.frames.items c.args.self.now.scope _ c.requires.element) (takes_next 93 c.eat-first.result _ _ c.requires.bracket c.eat-first.ensures) c.if-not-eat.ensures c.in_ok-push.ensures

pub returns-then-is_next-clause-ran : goal.returns-then-is_next-clause-ran
returns-then-is_next-clause-ran c =
    section_end _ _ _ _ _ _ _ _ _ _ (inside c.args.self.now.frames.items c.args.self.now.scope _ c.requires.element) (takes_next 93 c.eat-first.result _ _ c.requires.bracket c.eat-first.ensures) c.in_ok-push.ensures
    c.if-not-eat.ensures c.in_ok-push-2.ensures c.take_run-run.ensures.run c.take_run-run.ensures.passes c.in_ok-push_str.ensures c.if-is_next.ensures

pub returns-clause-ran : goal.returns-clause-ran
returns-clause-ran c =
    two_brackets _ _ _ _ _ _ _ _ _ _ (inside c.args.self.now.frames.items c.args.self.now.scope _ c.requires.element) (takes_next 93 c.eat-first.result _ _ c.requires.bracket c.eat-first.ensures) c.in_ok-push.ensures
    c.if-not-eat.ensures c.in_ok-push-2.ensures c.take_run-run.ensures.run c.take_run-run.ensures.passes c.in_ok-push_str.ensures c.take_run-run.ensures.ends c.if-is_next.ensures
