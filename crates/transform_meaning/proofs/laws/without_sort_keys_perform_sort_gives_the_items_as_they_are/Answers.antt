use Rattle.std.proofs.Common.{refl}
use Rattle.transform_meaning.proofs.laws.without_sort_keys_perform_sort_gives_the_items_as_they_are.Goals as goal

pub returns : goal.returns
returns c = λ source. refl
