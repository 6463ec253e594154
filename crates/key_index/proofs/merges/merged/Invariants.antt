use Rattle.std.proofs.Common.{◌≡◌, ◌≤◌, ◌+◌, ◌-◌, ◌++◌, drop, length}
use Rattle.key_index.specs.Merges.{merged}
use Rattle.key_index.proofs.merges.merged.Given as goal

abbrev pub invariant-loop-left : goal.invariant-loop-left
invariant-loop-left l = record {
  merges : l.made.items ++ merged (drop l.left l.first) (drop l.right l.second) ≡ merged l.first l.second;
  left_within : l.left ≤ length l.first;
  right_within : l.right ≤ length l.second;
}

abbrev pub decreases-loop-left : goal.decreases-loop-left
decreases-loop-left l = (length l.first - l.left) + (length l.second - l.right)
