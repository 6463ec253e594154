use Rattle.std.proofs.Common.{sym, ◌∙◌, arith}
use Rattle.global_order.proofs.MarkLemmas.{marked_more}
use Rattle.global_order.proofs.orders.first_open.Goals as goal

pub loop-place-preserved : goal.loop-place-preserved
loop-place-preserved c = record {
  low = omega (arith, c.loop-place.invariant.low);
  high = omega (arith, c.loop-place-test.true);
  marked = λ i a b. marked_more c.args.marks.now c.args.from c.loop-place.place i c.loop-place.invariant.marked (sym c.is_marked.ensures ∙ c.if-is_marked.true) a b;
}
