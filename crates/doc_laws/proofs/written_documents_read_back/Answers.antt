use Rattle.doc_laws.proofs.Documents.{document_back, bare_back}
use Rattle.doc_laws.proofs.written_documents_read_back.Goals as goal

pub returns-clause-declared : goal.returns-clause-declared
returns-clause-declared c = document_back

pub returns-clause-bare : goal.returns-clause-bare
returns-clause-bare c = bare_back
