use Rattle.std.proofs.Common.{◌≡◌, ℕ, length, false}
use Rattle.global_order.specs.Marks.{marked}
use Rattle.global_order.proofs.orders.no_marks.Given as goal

abbrev pub invariant-loop-turn : goal.invariant-loop-turn
invariant-loop-turn l = record {
  none : (i : ℕ) → marked l.marks i ≡ false;
  size : length l.marks ≡ l.turn;
}
