use Rattle.std.proofs.Common.{length}
use Rattle.xpath_lex.specs.Gaps.{Gap}
use Rattle.xpath_lex.proofs.scans.Scan.skip_gap.Given as goal

abbrev pub invariant-loop-c : goal.invariant-loop-c
invariant-loop-c l = Gap l.behind l.fn.self l.after l.self

abbrev pub decreases-loop-c : goal.decreases-loop-c
decreases-loop-c l = length l.self
