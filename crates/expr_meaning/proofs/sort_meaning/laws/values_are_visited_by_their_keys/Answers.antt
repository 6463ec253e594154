use Rattle.expr_meaning.proofs.SortMeaning.Sorting.{visit_moved}
use Rattle.expr_meaning.proofs.sort_meaning.laws.values_are_visited_by_their_keys.Goals as goal

pub returns : goal.returns
returns g c = visit_moved
