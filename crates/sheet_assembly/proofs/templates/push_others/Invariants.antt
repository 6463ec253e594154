use Rattle.std.proofs.Common.{◌≡◌, ◌++◌, length}
use Rattle.sheet_assembly.specs.Named.{each}
use Rattle.sheet_assembly.specs.Templates.{other_of}
use Rattle.sheet_assembly.proofs.templates.push_others.Given as goal

abbrev pub invariant-loop-left : goal.invariant-loop-left
invariant-loop-left l =
    l.made ++ each (other_of l.count) l.left ≡ l.initial.made ++ each (other_of l.count) l.standing

abbrev pub decreases-loop-left : goal.decreases-loop-left
decreases-loop-left l = length l.left
