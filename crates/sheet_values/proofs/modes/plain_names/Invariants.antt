use Rattle.std.proofs.Common.{◌≡◌, ◌++◌, length, map}
use Rattle.sheet_values.specs.Modes.{plain_name}
use Rattle.sheet_values.proofs.modes.plain_names.Given as goal

abbrev pub invariant-loop-left : goal.invariant-loop-left
invariant-loop-left l = l.made ++ map plain_name l.left ≡ map plain_name l.names

abbrev pub decreases-loop-left : goal.decreases-loop-left
decreases-loop-left l = length l.left
