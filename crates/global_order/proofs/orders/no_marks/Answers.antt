use Rattle.std.proofs.Common.{◌∷◌, [], false, refl, length-append, arith}
use Rattle.global_order.proofs.MarkLemmas.{nothing_marked, no_mark_more}
use Rattle.global_order.proofs.orders.no_marks.Goals as goal

pub loop-turn-init : goal.loop-turn-init
loop-turn-init c = record { none = λ i. rw c.new-marks.ensures (nothing_marked i); size = rw c.new-marks.ensures refl }

pub loop-turn-preserved : goal.loop-turn-preserved
loop-turn-preserved c =
    let size = length-append c.loop-turn.marks (false ∷ []) in
    record {
      none = λ i. rw c.in_ok-push.ensures.ok (no_mark_more c.loop-turn.marks i c.loop-turn.invariant.none);
      size = rw c.in_ok-push.ensures.ok (omega (arith, size, c.loop-turn.invariant.size));
    }
