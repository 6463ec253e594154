use Rattle.std.proofs.Common.{subst, arith}
use Rattle.query_reader.specs.Wanted.{Decides}
use Rattle.query_reader.proofs.WantLemmas.{wants_some, wants_none}
use Rattle.query_reader.proofs.places.wanted_in.Goals as goal

pub returns-in-Some : goal.returns-in-Some
returns-in-Some c =
    let d = subst (λ z. Decides c.wanted.result z) c.behind.ensures c.wanted.ensures in
    wants_some c.args.frames.now c.loop-i.i c.index-frames-i.result c.wanted.result c.in-Some.decided
    c.loop-i.invariant.1 c.loop-i-test.true c.loop-i.invariant.0 c.index-frames-i.is c.in-Some.is d

pub loop-i-preserved : goal.loop-i-preserved
loop-i-preserved c =
    let d = subst (λ z. Decides c.wanted.result z) c.behind.ensures c.wanted.ensures in (
      omega (arith, c.loop-i.invariant.0),
      wants_none c.args.frames.now c.loop-i.i c.index-frames-i.result c.wanted.result
          c.loop-i.invariant.1 c.loop-i-test.true c.loop-i.invariant.0 c.index-frames-i.is
          c.in_default.is d,
    )
