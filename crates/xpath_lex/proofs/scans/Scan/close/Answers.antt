use Rattle.std.proofs.Common.{arith}
use Rattle.xpath_lex.proofs.ScanLemmas.{size_bound}
use Rattle.xpath_lex.proofs.CommentLemmas.{Same-refl, Same-then, run_then, opens, open_passes, closes_last, colon_passes, never_closes, comment_closed, comment_open, shorter_by_one, same_length}
use Rattle.xpath_lex.proofs.scans.Scan.close.Goals as goal

pub loop-depth-init : goal.loop-depth-init
loop-depth-init c = record {
  same = Same-refl 1 _;
  room = omega arith;
  all = size_bound _ _ c.left-bytes.ensures;
  shorter = omega arith;
}

pub loop-depth-preserved-then-eat-2 : goal.loop-depth-preserved-then-eat-2
loop-depth-preserved-then-eat-2 c =
    let taken = c.take_run.ensures.taken in
    let one = shorter_by_one 40 _ _ c.if-eat.ensures in
    let two = shorter_by_one 58 _ _ c.if-eat-2.ensures in
    record {
      same = Same-then c.loop-depth.invariant.same (Same-then (run_then c.loop-depth.depth taken.0 _ _ c.loop-depth-test.true taken.1 taken.2) (opens c.loop-depth.depth _ _ _ c.loop-depth-test.true c.if-eat.ensures c.if-eat-2.ensures));
      room = omega (arith, one, two, c.take_run.ensures.shorter, c.loop-depth.invariant.room);
      all = c.loop-depth.invariant.all;
      shorter = omega (arith, one, two, c.take_run.ensures.shorter, c.loop-depth.invariant.shorter);
    }

pub loop-depth-preserved-else-eat-2 : goal.loop-depth-preserved-else-eat-2
loop-depth-preserved-else-eat-2 c =
    let taken = c.take_run.ensures.taken in
    let one = shorter_by_one 40 _ _ c.if-eat.ensures in
    let two = same_length _ _ c.if-eat-2.ensures.0 in
    record {
      same = Same-then c.loop-depth.invariant.same (Same-then (run_then c.loop-depth.depth taken.0 _ _ c.loop-depth-test.true taken.1 taken.2) (open_passes c.loop-depth.depth _ _ _ c.loop-depth-test.true c.if-eat.ensures c.if-eat-2.ensures.0 c.if-eat-2.ensures.1));
      room = omega (arith, one, two, c.take_run.ensures.shorter, c.loop-depth.invariant.room);
      all = c.loop-depth.invariant.all;
      shorter = omega (arith, one, two, c.take_run.ensures.shorter, c.loop-depth.invariant.shorter);
    }

pub loop-depth-preserved-then-eat-4 : goal.loop-depth-preserved-then-eat-4
loop-depth-preserved-then-eat-4 c =
    let taken = c.take_run.ensures.taken in
    let none = same_length _ _ c.if-eat.ensures.0 in
    let one = shorter_by_one 58 _ _ c.if-eat-3.ensures in
    let two = shorter_by_one 41 _ _ c.if-eat-4.ensures in
    record {
      same = Same-then c.loop-depth.invariant.same (Same-then (run_then c.loop-depth.depth taken.0 _ _ c.loop-depth-test.true taken.1 taken.2)
          (closes_last c.loop-depth.depth _ _ _ c.loop-depth-test.true (rw c.if-eat.ensures.0 at c.if-eat-3.ensures) c.if-eat-4.ensures));
      room = omega (arith, none, one, two, c.take_run.ensures.shorter, c.loop-depth.invariant.room);
      all = c.loop-depth.invariant.all;
      shorter = omega (arith, none, one, two, c.take_run.ensures.shorter, c.loop-depth.invariant.shorter);
    }

pub loop-depth-preserved : goal.loop-depth-preserved
loop-depth-preserved c =
    let taken = c.take_run.ensures.taken in
    let none = same_length _ _ c.if-eat.ensures.0 in
    let one = shorter_by_one 58 _ _ c.if-eat-3.ensures in
    let two = same_length _ _ c.if-eat-4.ensures.0 in
    record {
      same = Same-then c.loop-depth.invariant.same (Same-then (run_then c.loop-depth.depth taken.0 _ _ c.loop-depth-test.true taken.1 taken.2)
          (colon_passes c.loop-depth.depth _ _ _ c.loop-depth-test.true (rw c.if-eat.ensures.0 at c.if-eat-3.ensures) c.if-eat-4.ensures.0 c.if-eat-4.ensures.1));
      room = omega (arith, none, one, two, c.take_run.ensures.shorter, c.loop-depth.invariant.room);
      all = c.loop-depth.invariant.all;
      shorter = omega (arith, none, one, two, c.take_run.ensures.shorter, c.loop-depth.invariant.shorter);
    }

pub returns-else-eat-3-clause-closed : goal.returns-else-eat-3-clause-closed
returns-else-eat-3-clause-closed c =
    let taken = c.take_run.ensures.taken in
    comment_open c.loop-depth.depth _ _ (Same-then c.loop-depth.invariant.same (run_then c.loop-depth.depth taken.0 _ _ c.loop-depth-test.true taken.1 taken.2))
    (λ rest k. never_closes c.loop-depth.depth _ rest c.loop-depth-test.true c.take_run.ensures.ends c.if-eat.ensures.1 (rw c.if-eat.ensures.0 at c.if-eat-3.ensures.1) k)

pub returns-clause-closed : goal.returns-clause-closed
returns-clause-closed c = comment_closed c.loop-depth.depth _ _ c.loop-depth.invariant.same c.loop-depth-test.false
