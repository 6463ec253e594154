use Rattle.std.proofs.Common.{◌≡◌, ◌++◌, length}
use Rattle.sheet_assembly.specs.Spaces.{weighing}
use Rattle.sheet_assembly.proofs.spaces.push_weighing.Given as goal

abbrev pub invariant-loop-left : goal.invariant-loop-left
invariant-loop-left l =
    l.made ++ weighing l.level l.said l.left ≡ l.initial.made ++ weighing l.level l.said l.rules

abbrev pub decreases-loop-left : goal.decreases-loop-left
decreases-loop-left l = length l.left
