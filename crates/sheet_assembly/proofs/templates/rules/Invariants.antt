use Rattle.std.proofs.Common.{◌≡◌, ◌++◌, length}
use Rattle.sheet_assembly.specs.Templates.{rules_of}
use Rattle.sheet_assembly.proofs.templates.rules.Given as goal

abbrev pub invariant-loop-left : goal.invariant-loop-left
invariant-loop-left l =
    l.made ++ rules_of l.modes l.count l.before l.left ≡ rules_of l.modes l.count 0 l.standing

abbrev pub decreases-loop-left : goal.decreases-loop-left
decreases-loop-left l = length l.left
