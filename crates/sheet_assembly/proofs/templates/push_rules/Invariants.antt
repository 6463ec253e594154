use Rattle.std.proofs.Common.{◌≡◌, ◌++◌, drop, map}
use Rattle.sheet_assembly.specs.Templates.{rule_of}
use Rattle.sheet_assembly.proofs.templates.push_rules.Given as goal

abbrev pub invariant-loop-rule : goal.invariant-loop-rule
invariant-loop-rule l =
    l.made ++ map (rule_of l.modes l.place l.level) (drop l.rule-index l.rules)
    ≡ l.initial.made ++ map (rule_of l.modes l.place l.level) l.rules
