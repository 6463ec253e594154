use Rattle.std.proofs.Common.{◌≡◌, ◌++◌, length, reverse}
use Rattle.item_functions.proofs.sequence_functions.positions.reverse.Given as goal

abbrev pub invariant-loop-left : goal.invariant-loop-left
invariant-loop-left l = l.made.items ++ reverse l.left ≡ reverse l.items

abbrev pub decreases-loop-left : goal.decreases-loop-left
decreases-loop-left l = length l.left
