use Rattle.transform_meaning.proofs.Plain.{each_plain}
use Rattle.transform_meaning.proofs.laws.without_sort_keys_items_are_taken_in_order.Goals as goal

pub returns : goal.returns
returns c = each_plain
