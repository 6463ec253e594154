use Rattle.std.proofs.Common.{◌≡◌, length}
use Rattle.sheet_heads.specs.Characters.{characters_faults}
use Rattle.sheet_heads.proofs.texts.check_texts.Given as goal

abbrev pub invariant-loop-left : goal.invariant-loop-left
invariant-loop-left l = characters_faults l.left ≡ characters_faults l.nodes

abbrev pub decreases-loop-left : goal.decreases-loop-left
decreases-loop-left l = length l.left
