use Rattle.std.proofs.Common.{◌≡◌, ◌++◌, drop}
use Rattle.sheet_rules.specs.WideRules.Passing.{broken_passings}
use Rattle.sheet_rules.proofs.wide_rules.passing.push_broken_passing.Given as goal

abbrev pub invariant-loop-one : goal.invariant-loop-one
invariant-loop-one l =
    l.codes ++ broken_passings l.templates (drop l.one-index l.uses)
    ≡ l.fn.codes ++ broken_passings l.templates l.uses
