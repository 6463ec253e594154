use Rattle.std.proofs.Common.{arith}
use Rattle.std.specs.BinaryHeap.{heap_items}
use Rattle.global_order.proofs.WaitLemmas.{popped, popped_past}
use Rattle.global_order.proofs.waits.turn.Goals as goal

pub look_at-requires-clause-good : goal.look_at-requires-clause-good
look_at-requires-clause-good c =
    popped c.args.graph.now c.args.waits.now.done c.args.waits.now.marks.items (heap_items c.args.waits.now.ready)
    (heap_items c.pop.new.self) c.args.waits.now.waiting.items c.in-Some.key c.saturating_sub-place.result c.requires
    c.in-Some.ensures.permutation (c.in-Some.ensures.heap_order c.requires.heap).0
    (c.in-Some.ensures.below_top c.requires.heap) c.saturating_sub-place.ensures c.if-place-graph.true

pub returns-else-place-graph : goal.returns-else-place-graph
returns-else-place-graph c =
    popped_past c.args.graph.now c.args.waits.now.done c.args.waits.now.marks.items (heap_items c.args.waits.now.ready)
    (heap_items c.pop.new.self) c.args.waits.now.waiting.items c.in-Some.key c.requires
    c.in-Some.ensures.permutation (c.in-Some.ensures.heap_order c.requires.heap).0
    (omega (arith, c.saturating_sub-place.ensures, c.if-place-graph.false))
