use Rattle.transform_meaning.proofs.Plain.{apply_plain}
use Rattle.transform_meaning.proofs.laws.without_sort_keys_templates_are_applied_in_order.Goals as goal

pub returns : goal.returns
returns c = apply_plain
