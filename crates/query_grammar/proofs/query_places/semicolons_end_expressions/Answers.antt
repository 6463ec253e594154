use Rattle.query_grammar.proofs.QueryPlaces.Ends.{parted}
use Rattle.query_grammar.proofs.query_places.semicolons_end_expressions.Goals as goal

pub returns : goal.returns
returns c = λ l s from fs i r. parted s fs i r
