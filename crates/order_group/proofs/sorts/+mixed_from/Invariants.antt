use Rattle.std.proofs.Common.{length}
use Rattle.order_group.proofs.sorts.+mixed_from.Given as goal

abbrev pub decreases-mixed_from : goal.decreases-mixed_from
decreases-mixed_from l = length l.descending.now
