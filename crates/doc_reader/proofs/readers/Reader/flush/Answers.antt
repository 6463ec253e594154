use Rattle.std.proofs.Common.{sym}
use Rattle.doc_reader.proofs.ContentLemmas.{empty_text, no_text, text_pushed}
use Rattle.doc_reader.proofs.readers.Reader.flush.Goals as goal

pub returns-then-is_empty-clause-opened : goal.returns-then-is_empty-clause-opened
returns-then-is_empty-clause-opened c = no_text _ _ (sym c.if-is_empty.ensures)

pub returns-then-is_empty-clause-text : goal.returns-then-is_empty-clause-text
returns-then-is_empty-clause-text c = empty_text _ (sym c.if-is_empty.ensures)

pub returns-in_ok-push-in-Some-2-clause-opened : goal.returns-in_ok-push-in-Some-2-clause-opened
returns-in_ok-push-in-Some-2-clause-opened c =
    text_pushed _ _ _ c.in-Some.frame _ _ _ _ _ c.in-Some.ensures.items c.in_ok-push-in-Some-2.ensures.items c.in_ok-push-in-Some.ensures.ok c.in_ok-text-in-Some.ensures (sym c.if-is_empty.ensures)
