use Rattle.std.proofs.Common.{◌≡◌, ◌++◌, drop, map}
use Rattle.sheet_assembly.specs.Spaces.{leveled}
use Rattle.sheet_assembly.proofs.spaces.push_leveled.Given as goal

abbrev pub invariant-loop-rule : goal.invariant-loop-rule
invariant-loop-rule l =
    l.made ++ map (leveled l.level) (drop l.rule-index l.rules) ≡ l.initial.made ++ map (leveled l.level) l.rules
