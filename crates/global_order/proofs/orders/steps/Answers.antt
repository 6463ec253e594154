use Rattle.std.proofs.Common.{◌<◌, length, sym, ◌∙◌, ap, arith}
use Rattle.std.proofs.lemmas.List.{length-set}
use Rattle.std.proofs.Common.{true}
use Rattle.global_order.proofs.OrderLemmas.{next-inside, steps-some, steps-none, steps-start}
use Rattle.global_order.proofs.MarkLemmas.{next-from, set_marks, before_more, nothing_done}
use Rattle.global_order.proofs.orders.steps.Goals as goal

pub loop-turn-init : goal.loop-turn-init
loop-turn-init c = record {
  order = rw c.new-done.ensures (steps-start c.args.graph.now);
  marks = λ i. rw c.new-done.ensures (c.in_ok-marks.ensures.none i ∙ sym (nothing_done i));
  size = c.in_ok-marks.ensures.size;
  low = omega arith;
  before = λ j h. absurd (omega (arith, h));
}

pub index_mut-requires : goal.index_mut-requires
index_mut-requires c =
    let found = rw c.as_slice.ensures.value at c.next_from.ensures in
    let next = found ∙ next-from c.loop-turn.from c.args.graph.now c.loop-turn.marks.items c.loop-turn.done c.loop-turn.invariant.marks c.loop-turn.invariant.low c.loop-turn.invariant.before in
    let inside = next-inside c.in-Some.place c.args.graph.now c.loop-turn.done (sym next ∙ c.in-Some.is) in
    let same = ap length c.as_slice.ensures.value in
    omega (arith, inside, same, c.as_slice.ensures.len, c.loop-turn.invariant.size)

pub returns-in-None : goal.returns-in-None
returns-in-None c =
    let found = rw c.as_slice.ensures.value at c.next_from.ensures in
    let next = found ∙ next-from c.loop-turn.from c.args.graph.now c.loop-turn.marks.items c.loop-turn.done c.loop-turn.invariant.marks c.loop-turn.invariant.low c.loop-turn.invariant.before in
    sym (c.loop-turn.invariant.order ∙ steps-none (length c.args.graph.now) c.loop-turn.turn c.args.graph.now c.loop-turn.done c.loop-turn-test.true (sym c.in-None.is ∙ next))

pub loop-turn-preserved : goal.loop-turn-preserved
loop-turn-preserved c =
    let found = rw c.as_slice.ensures.value at c.next_from.ensures in
    let next = found ∙ next-from c.loop-turn.from c.args.graph.now c.loop-turn.marks.items c.loop-turn.done c.loop-turn.invariant.marks c.loop-turn.invariant.low c.loop-turn.invariant.before in
    let inside = next-inside c.in-Some.place c.args.graph.now c.loop-turn.done (sym next ∙ c.in-Some.is) in
    let within : c.in-Some.place < length c.loop-turn.marks.items = omega (arith, inside, c.loop-turn.invariant.size) in
    let marks = set_marks c.loop-turn.marks.items c.loop-turn.done c.in-Some.place c.loop-turn.invariant.marks within in
    let size = length-set c.loop-turn.marks.items c.in-Some.place true in
    let slice = ap length c.as_slice-in-Some.ensures.value in
    let more = rw c.as_slice-in-Some.ensures.value at c.first_open-from.ensures.marked in
    record {
      order = rw c.in_ok-push-in-Some.ensures.ok (c.loop-turn.invariant.order ∙ steps-some (length c.args.graph.now) c.loop-turn.turn c.in-Some.place c.args.graph.now c.loop-turn.done c.loop-turn-test.true (sym c.in-Some.is ∙ next));
      marks = λ i. rw c.in_ok-push-in-Some.ensures.ok (marks i);
      size = size ∙ c.loop-turn.invariant.size;
      low = omega (arith, c.first_open-from.ensures.within.1, slice, size, c.loop-turn.invariant.size);
      before = λ j h. rw c.in_ok-push-in-Some.ensures.ok (before_more _ c.loop-turn.done c.in-Some.place c.loop-turn.from c.first_open-from.result marks c.loop-turn.invariant.before more j h);
    }
