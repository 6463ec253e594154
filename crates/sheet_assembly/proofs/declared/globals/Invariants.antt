use Rattle.std.proofs.Common.{◌≡◌, ◌++◌, length}
use Rattle.sheet_assembly.specs.Named.{each_by, global_if}
use Rattle.sheet_assembly.proofs.declared.globals.Given as goal

abbrev pub invariant-loop-left : goal.invariant-loop-left
invariant-loop-left l =
    l.made ++ each_by global_if l.marks l.left ≡ each_by global_if l.fn.marks l.declarations

abbrev pub decreases-loop-left : goal.decreases-loop-left
decreases-loop-left l = length l.left
