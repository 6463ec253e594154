use Rattle.query_grammar.proofs.QueryPlaces.Apart.{alone_behind}
use Rattle.query_grammar.proofs.query_places.slashes_stand_alone.Goals as goal

pub returns : goal.returns
returns c = λ l t ts from fs gs i r e a. alone_behind t ts fs gs i r e a
