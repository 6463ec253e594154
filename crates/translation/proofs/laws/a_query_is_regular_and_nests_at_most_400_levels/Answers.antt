use Rattle.translation.proofs.QueryLimits.{queries_keep}
use Rattle.translation.proofs.laws.a_query_is_regular_and_nests_at_most_400_levels.Goals as goal

pub returns : goal.returns
returns c = λ tested tests. queries_keep tested tests
