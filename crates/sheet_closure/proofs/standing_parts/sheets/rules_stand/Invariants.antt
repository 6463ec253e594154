use Rattle.std.proofs.Common.{◌≡◌, drop}
use Rattle.std.specs.List.{list_all}
use Rattle.sheet_closure.specs.StandingParts.Patterns.{is_alternative}
use Rattle.sheet_closure.proofs.standing_parts.sheets.rules_stand.Given as goal

abbrev pub invariant-loop-rule : goal.invariant-loop-rule
invariant-loop-rule l =
    list_all (λ r. is_alternative r.pattern) (drop l.rule-index l.all)
    ≡ list_all (λ r. is_alternative r.pattern) l.all
