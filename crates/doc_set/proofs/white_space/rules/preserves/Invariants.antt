use Rattle.std.proofs.Common.{◌≡◌, length}
use Rattle.doc_set.specs.WhiteSpace.Stripped.{preserves}
use Rattle.doc_set.proofs.white_space.rules.preserves.Given as goal

abbrev pub invariant-loop-left : goal.invariant-loop-left
invariant-loop-left l = preserves l.outer l.left ≡ preserves l.outer l.attributes

abbrev pub decreases-loop-left : goal.decreases-loop-left
decreases-loop-left l = length l.left
