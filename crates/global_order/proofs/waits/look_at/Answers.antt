use Rattle.std.proofs.Common.{◌≡◌, ◌∙◌, sym, ap, []}
use Rattle.std.proofs.lemmas.List.{get_or_default}
use Rattle.std.specs.BinaryHeap.{heap_items}
use Rattle.global_order.specs.Order.{needs_of}
use Rattle.global_order.specs.Marks.{marked}
use Rattle.global_order.proofs.WaitLemmas.{waited, finished_with}
use Rattle.global_order.proofs.waits.look_at.Goals as goal

pub returns-in-Some : goal.returns-in-Some
returns-in-Some c =
    let g = c.args.graph.now in
    let row : c.as_slice-3.result.now ≡ needs_of g c.args.place =
    c.as_slice-3.ensures ∙ (c.index-graph-place.is ∙ get_or_default g c.args.place c.index-graph-place.result [] c.requires.inside) in
    waited g c.args.waits.now.done c.args.waits.now.marks.items (heap_items c.args.waits.now.ready)
    c.args.waits.now.waiting.items c.wait_for.new.waiting.items c.args.place c.in-Some.need c.wait_for.result
    c.requires.good (rw row at c.in-Some.ensures.some)
    (rw c.as_slice-2.ensures.value at c.in-Some.ensures.unmarked) c.wait_for.ensures

pub returns-in-None : goal.returns-in-None
returns-in-None c =
    let g = c.args.graph.now in
    let row : c.as_slice-3.result.now ≡ needs_of g c.args.place =
    c.as_slice-3.ensures ∙ (c.index-graph-place.is ∙ get_or_default g c.args.place c.index-graph-place.result [] c.requires.inside) in
    let marks = c.args.waits.now.marks.items in
    finished_with g c.args.waits.now.done c.finish.new.waits.done marks
    c.finish.new.waits.marks.items (heap_items c.args.waits.now.ready) (heap_items c.finish.new.waits.ready)
    c.args.waits.now.waiting.items c.finish.new.waits.waiting.items c.args.place c.finish.result c.requires.inside
    c.requires.good
    (ap (λ m. marked m c.args.place) (sym c.as_slice.ensures.value) ∙ (sym c.is_marked.ensures ∙ c.if-is_marked.false))
    (rw (c.as_slice-2.ensures.value, row) at c.in-None.ensures.none) c.finish.ensures.done
    c.finish.ensures.marks c.finish.ensures.opened c.finish.ensures.waiting
