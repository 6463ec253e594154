use Rattle.std.proofs.Common.{◌≡◌, length}
use Rattle.global_order.proofs.waits.no_rows.Given as goal

abbrev pub invariant-loop-turn : goal.invariant-loop-turn
invariant-loop-turn l = length l.rows.items ≡ l.turn
