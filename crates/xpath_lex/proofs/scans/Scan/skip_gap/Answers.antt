use Rattle.xpath_lex.specs.Gaps.{none}
use Rattle.xpath_lex.proofs.GapLemmas.{gap_run, gap_comment}
use Rattle.xpath_lex.proofs.scans.Scan.skip_gap.Goals as goal

pub loop-c-init : goal.loop-c-init
loop-c-init c = none

pub loop-c-preserved-in-Some : goal.loop-c-preserved-in-Some
loop-c-preserved-in-Some c =
    gap_run _ _ c.in-Some.c _ _ c.loop-c.invariant c.peek.ensures c.in-Some.is c.is_space.ensures c.if-is_space.true c.take_run.ensures.taken c.take_run.ensures.ends

pub loop-c-preserved : goal.loop-c-preserved
loop-c-preserved c = gap_comment _ _ _ c.loop-c.invariant c.if-not-open.ensures c.if-not-close.ensures.closed
