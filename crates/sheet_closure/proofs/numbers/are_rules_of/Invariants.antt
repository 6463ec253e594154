use Rattle.std.proofs.Common.{◌≡◌, drop}
use Rattle.std.specs.List.{list_all}
use Rattle.sheet_closure.specs.Numbers.{is_rule_of}
use Rattle.sheet_closure.proofs.numbers.are_rules_of.Given as goal

abbrev pub invariant-loop-rule : goal.invariant-loop-rule
invariant-loop-rule l =
    list_all (is_rule_of l.templates l.modes l.levels) (drop l.rule-index l.rules)
    ≡ list_all (is_rule_of l.templates l.modes l.levels) l.rules
