use Rattle.std.proofs.Common.{Ok, Err, sym, ◌∙◌}
use Rattle.doc_reader.proofs.ContentLemmas.{inside}
use Rattle.doc_reader.proofs.TextReads.{content_refers, close_goes}
use Rattle.doc_reader.proofs.readers.Reader.characters.Goals as goal

pub returns-then-eat-2-clause-ran : goal.returns-then-eat-2-clause-ran
returns-then-eat-2-clause-ran c =
    close_goes _ _ _ _ _ (inside c.args.self.now.frames.items c.args.self.now.scope _ c.requires.element) (sym c.if-eat.ensures.0 ∙ c.if-eat-2.ensures) c.in_ok-push.ensures

pub returns-in_ok-push-in-Ok-clause-ran : goal.returns-in_ok-push-in-Ok-clause-ran
returns-in_ok-push-in-Ok-clause-ran c =
    content_refers _ _ _ _ _ (Ok c.in-Ok.c) _ (inside c.args.self.now.frames.items c.args.self.now.scope _ c.requires.element) c.if-eat.ensures c.in-Ok.ensures.reads c.in_ok-push-in-Ok.ensures

pub returns-in-Err-clause-ran : goal.returns-in-Err-clause-ran
returns-in-Err-clause-ran c =
    content_refers _ _ _ c.args.self.now.text c.args.self.now.text (Err c.in-Err.stop) _ (inside c.args.self.now.frames.items c.args.self.now.scope _ c.requires.element) c.if-eat.ensures c.in-Err.ensures.reads
