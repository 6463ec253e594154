use Rattle.std.proofs.Common.{◌≡◌, drop}
use Rattle.std.specs.List.{list_all}
use Rattle.closed_sheets.specs.Values.{is_good_pattern}
use Rattle.closed_sheets.proofs.sheets.are_good_rules.Given as goal

abbrev pub invariant-loop-rule : goal.invariant-loop-rule
invariant-loop-rule l =
    list_all (λ r. is_good_pattern r.pattern) (drop l.rule-index l.all)
    ≡ list_all (λ r. is_good_pattern r.pattern) l.all
