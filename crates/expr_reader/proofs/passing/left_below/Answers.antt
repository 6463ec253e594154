use Rattle.std.proofs.Common.{refl, arith}
use Rattle.expr_reader.proofs.PassingLemmas.{passed_at}
use Rattle.expr_reader.proofs.passing.left_below.Goals as goal

pub loop-count-preserved : goal.loop-count-preserved
loop-count-preserved c =
    let p = rw c.if-passes_on.true at c.passes_on.ensures in
    (omega arith, passed_at c.args.token.now c.args.frames.now c.loop-count.count c.index-frames-count.result (omega arith) c.loop-count.invariant.0 c.index-frames-count.is (p refl) c.loop-count.invariant.1)
