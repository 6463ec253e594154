use Rattle.std.proofs.Common.{◌≡◌, drop, map}
use Rattle.order_group.specs.Rows.{all_of, cell_at}
use Rattle.order_group.specs.Sorts.{cells_of}
use Rattle.order_group.proofs.sorts.all_of.Given as goal

abbrev pub invariant-loop-row : goal.invariant-loop-row
invariant-loop-row l =
    all_of l.class (map (cell_at l.column) (cells_of (drop l.row-index l.rows))) ≡ all_of l.class (map (cell_at l.column) (cells_of l.rows))
