use Rattle.std.proofs.Common.{◌≡◌, ◌-◌, length}
use Rattle.global_order.specs.Marks.{next_marked_of}
use Rattle.global_order.proofs.orders.next_from.Given as goal

abbrev pub invariant-loop-place : goal.invariant-loop-place
invariant-loop-place l =
    next_marked_of (length l.graph - l.from) l.from l.graph l.marks
    ≡ next_marked_of (length l.graph - l.place) l.place l.graph l.marks
