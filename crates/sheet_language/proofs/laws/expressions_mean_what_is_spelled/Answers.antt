use Rattle.sheet_language.proofs.MeaningLemmas.{means_value, value_means}
use Rattle.sheet_language.proofs.laws.expressions_mean_what_is_spelled.Goals as goal

pub returns : goal.returns
returns c = λ p text e. (means_value p text e, value_means p text e)
