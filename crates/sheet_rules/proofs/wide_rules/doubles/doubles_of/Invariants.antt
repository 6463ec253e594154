use Rattle.std.proofs.Common.{◌≡◌, ◌≤◌, length, drop}
use Rattle.sheet_rules.specs.WideRules.Doubles.{doubles_of, seen_of}
use Rattle.sheet_rules.proofs.wide_rules.doubles.doubles_of.Given as goal

abbrev pub invariant-loop-left : goal.invariant-loop-left
invariant-loop-left g l = record {
  within : l.left ≤ length l.declarations;
  seen_is : l.seen ≡ seen_of (drop l.left l.declarations);
  twice_is : l.doubles ≡ doubles_of (drop l.left l.declarations);
}

abbrev pub decreases-loop-left : goal.decreases-loop-left
decreases-loop-left g l = l.left
