use Rattle.std.proofs.Common.{◌≡◌, ◌++◌}
use Rattle.sheet_assembly.specs.Spaces.{down_from}
use Rattle.sheet_assembly.proofs.spaces.down_from.Given as goal

abbrev pub invariant-loop-level : goal.invariant-loop-level
invariant-loop-level l = l.made ++ down_from l.level l.rules ≡ down_from l.levels l.rules

abbrev pub decreases-loop-level : goal.decreases-loop-level
decreases-loop-level l = l.level
