use Rattle.key_functions.proofs.Calls.{finds_keys}
use Rattle.key_functions.proofs.laws.keys_are_found_by_their_functions.Goals as goal

pub returns : goal.returns
returns c = finds_keys
