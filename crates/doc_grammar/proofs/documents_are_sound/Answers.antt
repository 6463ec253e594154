use Rattle.doc_grammar.proofs.SoundDocuments.{document_size, document_sound}
use Rattle.doc_grammar.proofs.documents_are_sound.Goals as goal

pub returns : goal.returns
returns c = record { sound = document_sound; small = document_size }
