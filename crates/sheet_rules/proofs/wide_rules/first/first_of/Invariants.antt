use Rattle.std.proofs.Common.{◌≡◌, drop}
use Rattle.sheet_rules.specs.WideRules.First.{first_of}
use Rattle.sheet_rules.proofs.wide_rules.first.first_of.Given as goal

abbrev pub invariant-loop-wide : goal.invariant-loop-wide
invariant-loop-wide l = first_of (drop l.wide-index l.order) l.codes ≡ first_of l.order l.codes
