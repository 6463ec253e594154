use Rattle.key_functions.proofs.Uses.{are_used}
use Rattle.key_functions.proofs.laws.uses_are_carried.Goals as goal

pub returns : goal.returns
returns c = are_used
