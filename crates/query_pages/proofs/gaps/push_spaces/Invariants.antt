use Rattle.std.proofs.Common.{◌≡◌, ◌++◌}
use Rattle.query_pages.specs.Gaps.{spaces}
use Rattle.query_pages.proofs.gaps.push_spaces.Given as goal

abbrev pub invariant-loop-left : goal.invariant-loop-left
invariant-loop-left l = l.out ++ spaces l.left ≡ l.initial.out ++ spaces l.initial.left

abbrev pub decreases-loop-left : goal.decreases-loop-left
decreases-loop-left l = l.left
