use Rattle.way_back.proofs.Nesting.{nests_as_counted}
use Rattle.way_back.proofs.instructions_nest_at_most_as_counted.Goals as goal

pub returns : goal.returns
returns c = nests_as_counted
