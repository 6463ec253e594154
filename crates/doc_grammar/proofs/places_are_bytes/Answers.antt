use Rattle.doc_grammar.specs.Lines.{text_of}
use Rattle.doc_grammar.specs.Machine.{start}
use Rattle.doc_grammar.proofs.FirstFaults.{left_over}
use Rattle.doc_grammar.proofs.PlaceLemmas.{place_of}
use Rattle.doc_grammar.proofs.places_are_bytes.Goals as goal

pub returns : goal.returns
returns c = record { offsets = place_of; faults = λ cs rest why e. let left = left_over (text_of cs) rest why start e in place_of cs left.0 rest left.1 }
