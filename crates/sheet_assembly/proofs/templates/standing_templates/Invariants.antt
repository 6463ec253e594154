use Rattle.std.proofs.Common.{◌≡◌, ◌++◌, length}
use Rattle.sheet_assembly.specs.Named.{each_by}
use Rattle.sheet_assembly.specs.Templates.{standing_if}
use Rattle.sheet_assembly.proofs.templates.standing_templates.Given as goal

abbrev pub invariant-loop-left : goal.invariant-loop-left
invariant-loop-left l =
    l.made ++ each_by (standing_if l.called) l.marks l.left
    ≡ each_by (standing_if l.called) l.fn.marks l.declarations

abbrev pub decreases-loop-left : goal.decreases-loop-left
decreases-loop-left l = length l.left
