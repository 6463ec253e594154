use Rattle.std.proofs.Common.{◌≡◌, ◌≤◌, length, drop}
use Rattle.sheet_rules.specs.WideRules.Outputs.{highest}
use Rattle.sheet_rules.proofs.wide_rules.outputs.highest.Given as goal

abbrev pub invariant-loop-left : goal.invariant-loop-left
invariant-loop-left g l = record {
  within : l.left ≤ length l.declarations;
  level_is : l.level ≡ highest (drop l.left l.declarations);
}

abbrev pub decreases-loop-left : goal.decreases-loop-left
decreases-loop-left g l = l.left
