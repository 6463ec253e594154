use Rattle.doc_grammar.proofs.SpotLaw.{has_spot, one_spot}
use Rattle.doc_grammar.proofs.spots_fit_the_grammar.Goals as goal

pub returns : goal.returns
returns c = record { fits = has_spot; one = one_spot }
