use Rattle.doc_grammar.specs.Machine.{start}
use Rattle.doc_grammar.proofs.FirstFaults.{first_fault, left_over}
use Rattle.doc_grammar.proofs.stops_at_the_first_fault.Goals as goal

pub returns : goal.returns
returns c = record { leaves = λ cs rest why e. left_over cs rest why start e; first = λ cs front rest why e same. first_fault cs front rest why e same }
