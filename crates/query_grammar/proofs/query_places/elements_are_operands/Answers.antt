use Rattle.query_grammar.proofs.QueryPlaces.Operands.{taken}
use Rattle.query_grammar.proofs.query_places.elements_are_operands.Goals as goal

pub returns : goal.returns
returns c = λ p n s fs. taken p n s fs
