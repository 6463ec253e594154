use Rattle.key_functions.proofs.FitNames.{keys_fit}
use Rattle.key_functions.proofs.laws.key_functions_fit_into_every_query.Goals as goal

pub returns : goal.returns
returns c = keys_fit
