use Rattle.std.proofs.Common.{◌≡◌, map, take}
use Rattle.flow_eval.specs.Rows.{descends}
use Rattle.flow_eval.proofs.rows.directions.Given as goal

abbrev pub invariant-loop-order : goal.invariant-loop-order
invariant-loop-order l = l.made.items ≡ map descends (take l.order-index l.orders)
