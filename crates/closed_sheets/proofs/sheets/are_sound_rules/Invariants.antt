use Rattle.std.proofs.Common.{◌≡◌, drop}
use Rattle.std.specs.List.{list_all}
use Rattle.closed_queries.specs.Texts.{is_sound_name_test}
use Rattle.closed_sheets.proofs.sheets.are_sound_rules.Given as goal

abbrev pub invariant-loop-rule : goal.invariant-loop-rule
invariant-loop-rule l =
    list_all (λ r. is_sound_name_test r.test) (drop l.rule-index l.all)
    ≡ list_all (λ r. is_sound_name_test r.test) l.all
