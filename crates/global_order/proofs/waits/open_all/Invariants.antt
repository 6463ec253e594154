use Rattle.std.proofs.Common.{take}
use Rattle.std.specs.BinaryHeap.{heap_items}
use Rattle.global_order.specs.Waits.{Opens}
use Rattle.global_order.proofs.waits.open_all.Given as goal

abbrev pub invariant-loop-place : goal.invariant-loop-place
invariant-loop-place l =
    Opens l.size (heap_items l.fn.ready) (take l.place-index l.places) (heap_items l.ready)
