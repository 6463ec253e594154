use Rattle.std.proofs.Common.{length}
use Rattle.order_group.proofs.rows.+cell.Given as goal

abbrev pub decreases-cell : goal.decreases-cell
decreases-cell l = length l.cells.now
