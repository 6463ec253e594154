use Rattle.std.proofs.Common.{◌≡◌, ◌++◌, length}
use Rattle.sheet_heads.specs.Characters.{characters_value}
use Rattle.sheet_heads.proofs.texts.joined.Given as goal

abbrev pub invariant-loop-left : goal.invariant-loop-left
invariant-loop-left l = l.made ++ characters_value l.left ≡ characters_value l.nodes

abbrev pub decreases-loop-left : goal.decreases-loop-left
decreases-loop-left l = length l.left
