use Rattle.std.proofs.Common.{rules}
use Rattle.std.specs.BinaryHeap.{heap_items}
use Rattle.global_order.proofs.WaitLemmas.{opens_turn}
use Rattle.global_order.proofs.waits.open_all.Goals as goal

pub loop-place-preserved : goal.loop-place-preserved
loop-place-preserved c =
    opens_turn c.args.size (heap_items c.args.ready.now) c.args.places.now (heap_items c.loop-place.ready)
    (heap_items c.push.new.self) c.loop-place.place-index _ c.saturating_sub.result c.loop-place-test.true
    (search rules) c.saturating_sub.ensures c.loop-place.invariant c.in_ok-push.ensures.permutation
    c.in_ok-push.ensures.heap_order
