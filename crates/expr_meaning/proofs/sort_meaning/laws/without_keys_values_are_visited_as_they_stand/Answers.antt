use Rattle.expr_meaning.proofs.SortMeaning.Sorting.{visit_plain}
use Rattle.expr_meaning.proofs.sort_meaning.laws.without_keys_values_are_visited_as_they_stand.Goals as goal

pub returns : goal.returns
returns g c = visit_plain
