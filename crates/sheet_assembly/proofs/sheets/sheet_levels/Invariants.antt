use Rattle.std.proofs.Common.{◌≡◌, ◌++◌, drop, map}
use Rattle.sheet_assembly.specs.Sheets.{level_of}
use Rattle.sheet_assembly.proofs.sheets.sheet_levels.Given as goal

abbrev pub invariant-loop-level : goal.invariant-loop-level
invariant-loop-level l = l.made ++ map level_of (drop l.level-index l.levels) ≡ map level_of l.levels
