use Rattle.std.proofs.Common.{◌∙◌}
use Rattle.item_functions.proofs.NumberFunctions.SumLemmas.{absolute_from}
use Rattle.item_functions.proofs.number_functions.sums.abs.Goals as goal

pub returns : goal.returns
returns c = c.ok_or.ensures.value ∙ absolute_from _ c.args.number c.ranges.number c.checked_abs.ensures
