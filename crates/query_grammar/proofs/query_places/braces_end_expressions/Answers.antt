use Rattle.query_grammar.proofs.QueryPlaces.Ends.{closed}
use Rattle.query_grammar.proofs.query_places.braces_end_expressions.Goals as goal

pub returns : goal.returns
returns c = λ l s fs v e. closed l s fs v e
