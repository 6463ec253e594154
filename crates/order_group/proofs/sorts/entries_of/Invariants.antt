use Rattle.std.proofs.Common.{◌≡◌, ◌++◌, drop}
use Rattle.order_group.specs.Entries.{keyed_entries}
use Rattle.order_group.specs.Sorts.{numbered}
use Rattle.order_group.proofs.sorts.entries_of.Given as goal

abbrev pub invariant-loop-row : goal.invariant-loop-row
invariant-loop-row l = record {
  place : l.place ≡ l.row-index;
  made : keyed_entries l.entries.items ++ numbered l.place (drop l.row-index l.rows) ≡ numbered 0 l.rows;
}
