use Rattle.std.proofs.Common.{◌≡◌, ◌++◌, length}
use Rattle.sheet_assembly.specs.Named.{ordered}
use Rattle.sheet_assembly.proofs.declared.ordered.Given as goal

abbrev pub invariant-loop-left : goal.invariant-loop-left
invariant-loop-left l = l.made ++ ordered l.globals l.left ≡ ordered l.globals l.order

abbrev pub decreases-loop-left : goal.decreases-loop-left
decreases-loop-left l = length l.left
