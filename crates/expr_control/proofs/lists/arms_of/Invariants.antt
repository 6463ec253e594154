use Rattle.std.proofs.Common.{◌≡◌, ◌++◌, length}
use Rattle.expr_control.specs.Lists.{arms_of}
use Rattle.expr_control.proofs.lists.arms_of.Given as goal

abbrev pub invariant-loop-left : goal.invariant-loop-left
invariant-loop-left l = l.arms.items ++ arms_of l.left ≡ arms_of l.parts

abbrev pub decreases-loop-left : goal.decreases-loop-left
decreases-loop-left l = length l.left
