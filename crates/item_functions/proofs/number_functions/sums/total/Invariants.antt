use Rattle.std.proofs.Common.{◌≡◌, ◌*◌, drop, pos, ◌+ℤ◌}
use Rattle.std.specs.Prelude.{◌≤ℤ◌}
use Rattle.item_functions.specs.NumberFunctions.Sums.{plus, total}
use Rattle.item_functions.proofs.number_functions.sums.total.Given as goal

abbrev pub invariant-loop-item : goal.invariant-loop-item
invariant-loop-item l = record {
  low : pos 0 ≤ℤ (l.total +ℤ pos (9223372036854775808 * l.item-index));
  high : l.total ≤ℤ pos (9223372036854775808 * l.item-index);
  left : plus l.total (total (drop l.item-index l.items)) ≡ total l.items;
}
