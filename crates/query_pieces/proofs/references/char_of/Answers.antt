use Rattle.query_pieces.proofs.NumberLemmas.{no_char}
use Rattle.query_pieces.proofs.references.char_of.Goals as goal

pub returns-in-None : goal.returns-in-None
returns-in-None c = no_char _ c.in-None.ensures.cases
