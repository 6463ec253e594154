use Rattle.std.proofs.Common.{◌≡◌, length}
use Rattle.expr_control.specs.Lists.{other_of}
use Rattle.expr_control.proofs.lists.other_of.Given as goal

abbrev pub invariant-loop-left : goal.invariant-loop-left
invariant-loop-left l = other_of l.left ≡ other_of l.parts

abbrev pub decreases-loop-left : goal.decreases-loop-left
decreases-loop-left l = length l.left
