use Rattle.std.proofs.Common.{◌≡◌, ◌++◌, length}
use Rattle.sheet_assembly.specs.Named.{each, keys_in}
use Rattle.sheet_assembly.proofs.declared.keys.Given as goal

abbrev pub invariant-loop-left : goal.invariant-loop-left
invariant-loop-left l = l.made ++ each keys_in l.left ≡ each keys_in l.declarations

abbrev pub decreases-loop-left : goal.decreases-loop-left
decreases-loop-left l = length l.left
