use Rattle.std.proofs.Common.{◌≡◌, length, false}
use Rattle.sheet_assembly.specs.Spaces.{omit_of}
use Rattle.sheet_assembly.proofs.spaces.omit.Given as goal

abbrev pub invariant-loop-left : goal.invariant-loop-left
invariant-loop-left l = omit_of l.omit l.left ≡ omit_of false l.declarations

abbrev pub decreases-loop-left : goal.decreases-loop-left
decreases-loop-left l = length l.left
