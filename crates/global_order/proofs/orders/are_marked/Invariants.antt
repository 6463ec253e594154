use Rattle.std.proofs.Common.{◌≡◌, drop}
use Rattle.global_order.specs.Marks.{are_marked}
use Rattle.global_order.proofs.orders.are_marked.Given as goal

abbrev pub invariant-loop-need : goal.invariant-loop-need
invariant-loop-need l = are_marked l.marks l.needs ≡ are_marked l.marks (drop l.need-index l.needs)
