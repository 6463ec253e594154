use Rattle.std.proofs.Common.{◌≡◌, ◌≤◌, ◌<◌, ◌-◌, ℕ, length, true}
use Rattle.global_order.specs.Marks.{marked}
use Rattle.global_order.proofs.orders.first_open.Given as goal

abbrev pub invariant-loop-place : goal.invariant-loop-place
invariant-loop-place l = record {
  low : l.from ≤ l.place;
  high : l.place ≤ length l.marks;
  marked : (i : ℕ) → l.from ≤ i → i < l.place → marked l.marks i ≡ true;
}

abbrev pub decreases-loop-place : goal.decreases-loop-place
decreases-loop-place l = length l.marks - l.place
