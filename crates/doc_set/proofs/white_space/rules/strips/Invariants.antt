use Rattle.std.proofs.Common.{◌≡◌, length}
use Rattle.doc_set.specs.WhiteSpace.Stripped.{strips}
use Rattle.doc_set.proofs.white_space.rules.strips.Given as goal

abbrev pub invariant-loop-left : goal.invariant-loop-left
invariant-loop-left l = strips l.left l.name ≡ strips l.rules l.name

abbrev pub decreases-loop-left : goal.decreases-loop-left
decreases-loop-left l = length l.left
