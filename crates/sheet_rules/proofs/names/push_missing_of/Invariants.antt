use Rattle.std.proofs.Common.{◌≡◌, ◌++◌, drop}
use Rattle.sheet_rules.specs.Names.{missing_codes}
use Rattle.sheet_rules.proofs.names.push_missing_of.Given as goal

abbrev pub invariant-loop-name : goal.invariant-loop-name
invariant-loop-name l =
    l.codes ++ missing_codes l.declared (drop l.name-index l.called)
    ≡ l.fn.codes ++ missing_codes l.declared l.called
