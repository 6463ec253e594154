use Rattle.std.proofs.Common.{◌≡◌, drop}
use Rattle.sheet_closure.specs.Numbers.{are_levels}
use Rattle.sheet_closure.proofs.numbers.are_levels.Given as goal

abbrev pub invariant-loop-place : goal.invariant-loop-place
invariant-loop-place l = are_levels 0 l.levels ≡ are_levels l.place (drop l.place l.levels)
