use Rattle.std.proofs.Common.{◌≡◌, ◌++◌, length}
use Rattle.sheet_assembly.specs.Named.{each}
use Rattle.sheet_assembly.specs.Spaces.{spaces_in}
use Rattle.sheet_assembly.proofs.spaces.leveled_rules.Given as goal

abbrev pub invariant-loop-left : goal.invariant-loop-left
invariant-loop-left l = l.made ++ each spaces_in l.left ≡ each spaces_in l.declarations

abbrev pub decreases-loop-left : goal.decreases-loop-left
decreases-loop-left l = length l.left
