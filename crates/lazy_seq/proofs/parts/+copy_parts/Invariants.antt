use Rattle.std.proofs.Common.{◌≡◌, take}
use Rattle.lazy_seq.specs.Stacks.{total_weight}
use Rattle.lazy_seq.proofs.parts.+copy_parts.Given as goal

abbrev pub decreases-copy_parts : goal.decreases-copy_parts
decreases-copy_parts l = total_weight l.parts.now

abbrev pub invariant-loop-part : goal.invariant-loop-part
invariant-loop-part l = l.made.items ≡ take l.part-index l.parts
