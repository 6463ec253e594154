use Rattle.std.proofs.Common.{◌≡◌, ◌≤◌, ◌<◌, ◌-◌, ℕ, length, true}
use Rattle.global_order.specs.Order.{steps, order_of, is_in}
use Rattle.global_order.proofs.MarkLemmas.{Marks}
use Rattle.global_order.proofs.orders.steps.Given as goal

abbrev pub invariant-loop-turn : goal.invariant-loop-turn
invariant-loop-turn l = record {
  order : order_of l.graph ≡ steps (length l.graph - l.turn) l.graph l.done;
  marks : Marks l.marks.items l.done;
  size : length l.marks.items ≡ length l.graph;
  low : l.from ≤ length l.graph;
  before : (j : ℕ) → j < l.from → is_in l.done j ≡ true;
}
