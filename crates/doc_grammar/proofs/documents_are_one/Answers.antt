use Rattle.std.specs.Str.{chars}
use Rattle.doc_grammar.specs.Scopes.{opened}
use Rattle.doc_grammar.specs.Lines.{text_of}
use Rattle.doc_grammar.proofs.Runs.{document_one}
use Rattle.doc_grammar.proofs.documents_are_one.Goals as goal

pub returns : goal.returns
returns c = λ bytes s t a b. document_one opened (text_of (chars bytes)) s t a.1 b.1
