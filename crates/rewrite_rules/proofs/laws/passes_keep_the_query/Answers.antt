use Rattle.rewrite_rules.proofs.QueriesSame.{passes_same}
use Rattle.rewrite_rules.proofs.laws.passes_keep_the_query.Goals as goal

pub returns : goal.returns
returns c = λ count run document n k. passes_same count run document n k
