use Rattle.key_functions.proofs.Uses.{both_ways}
use Rattle.key_functions.proofs.laws.the_same_is_carried_both_ways.Goals as goal

pub returns : goal.returns
returns c = both_ways
