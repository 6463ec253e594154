use Rattle.std.specs.BinaryHeap.{heap_items}
use Rattle.global_order.specs.Waits.{IsGood}
use Rattle.global_order.proofs.waits.take_turns.Given as goal

abbrev pub invariant-loop-count : goal.invariant-loop-count
invariant-loop-count l =
    IsGood l.graph l.waits.done l.waits.marks.items (heap_items l.waits.ready) l.waits.waiting.items
