use Rattle.std.proofs.Common.{arith}
use Rattle.doc_grammar.proofs.DeclaredReads.{found_declared}
use Rattle.doc_grammar.proofs.SoundDocuments.{document_sound}
use Rattle.doc_reader.proofs.TextLemmas.{as_document, as_fault, no_text_fault}
use Rattle.doc_reader.proofs.read_scoped.Goals as goal

pub returns-in-Ok-2-clause-declared : goal.returns-in-Ok-2-clause-declared
returns-in-Ok-2-clause-declared c =
    let read = rw c.in-Ok-2.is at c.in_ok-whole-in-Ok.ensures in
    found_declared c.args.bytes.now _ _ c.in-Ok.ensures.cases.1 (rw c.in-Ok.ensures.cases.0 at read)

pub returns-in-Ok-2-clause-found : goal.returns-in-Ok-2-clause-found
returns-in-Ok-2-clause-found c =
    as_document _ _ _ _ c.in-Ok.ensures.cases.0 c.in-Ok.ensures.cases.1 (rw c.in-Ok-2.is at c.in_ok-whole-in-Ok.ensures)

pub returns-in-Err-2-clause-refused : goal.returns-in-Err-2-clause-refused
returns-in-Err-2-clause-refused c =
    as_fault _ _ _ c.in-Ok.ensures.cases.0 c.in-Ok.ensures.cases.1 (rw c.in-Err-2.is at c.in_ok-whole-in-Ok.ensures)

pub returns-in-Ok-2-clause-sound : goal.returns-in-Ok-2-clause-sound
returns-in-Ok-2-clause-sound c =
    document_sound c.args.bytes.now _ (omega arith) (as_document _ _ _ _ c.in-Ok.ensures.cases.0 c.in-Ok.ensures.cases.1 (rw c.in-Ok-2.is at c.in_ok-whole-in-Ok.ensures))

pub returns-in_ok-spot-in-Err-clause-refused : goal.returns-in_ok-spot-in-Err-clause-refused
returns-in_ok-spot-in-Err-clause-refused c = no_text_fault _ _ c.in-Err.ensures.cases.0 c.in_ok-spot-in-Err.ensures
