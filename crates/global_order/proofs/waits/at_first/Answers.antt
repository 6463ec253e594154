use Rattle.std.specs.BinaryHeap.{heap_items}
use Rattle.global_order.proofs.WaitLemmas.{all_good}
use Rattle.global_order.proofs.waits.at_first.Goals as goal

pub returns : goal.returns
returns c =
    all_good c.args.graph.now c.new.result c.in_ok-marks.marks.items (heap_items c.in_ok-ready.ready)
    c.in_ok-waiting.waiting.items c.new.ensures c.in_ok-marks.ensures.none c.in_ok-marks.ensures.size
    c.in_ok-waiting.ensures c.in_ok-ready.ensures.heap c.in_ok-ready.ensures.all
