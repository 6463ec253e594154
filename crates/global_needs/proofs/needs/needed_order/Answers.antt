use Rattle.global_needs.proofs.Empty.{nothing_ordered}
use Rattle.global_needs.proofs.needs.needed_order.Goals as goal

pub returns-in-empty : goal.returns-in-empty
returns-in-empty c = nothing_ordered c.args.sheet.now c.as_slice.result.now c.new.result c.as_slice.ensures c.in-empty.len_below c.new.ensures
