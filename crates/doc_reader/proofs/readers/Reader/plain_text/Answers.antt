use Rattle.doc_reader.proofs.ContentLemmas.{inside, empty_run, some_run, nothing_taken, something_taken}
use Rattle.doc_reader.proofs.TextReads.{plain_goes, text_stops}
use Rattle.doc_reader.proofs.readers.Reader.plain_text.Goals as goal

pub returns-then-is_empty-clause-ran : goal.returns-then-is_empty-clause-ran
returns-then-is_empty-clause-ran c =
    let same = nothing_taken _ _ _ c.take_run-run.ensures.run (empty_run _ c.if-is_empty.ensures) in
    rw same (text_stops _ _ _ (inside c.args.self.now.frames.items c.args.self.now.scope _ c.requires.element) c.requires.some c.requires.no_markup c.requires.no_reference c.requires.no_close c.requires.no_bracket (rw same at c.take_run-run.ensures.ends))

pub returns-clause-ran : goal.returns-clause-ran
returns-clause-ran c =
    plain_goes _ _ _ _ _ _ (inside c.args.self.now.frames.items c.args.self.now.scope _ c.requires.element) c.take_run-run.ensures.run c.take_run-run.ensures.passes c.in_ok-push_str.ensures

pub returns-clause-falls : goal.returns-clause-falls
returns-clause-falls c = something_taken _ _ _ c.take_run-run.ensures.run (some_run _ c.take_run-run.utf8 c.if-is_empty.ensures)
