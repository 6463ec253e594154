use Rattle.query_grammar.proofs.QueryPlaces.Apart.{uncompared_where}
use Rattle.query_grammar.proofs.query_places.no_operand_is_compared.Goals as goal

pub returns : goal.returns
returns c = λ from fs s i r w a. uncompared_where s fs i r w a
