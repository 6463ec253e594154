use Rattle.std.proofs.Common.{◌≡◌, drop}
use Rattle.std.specs.List.{list_all}
use Rattle.sheet_closure.specs.Closed.{is_space_test}
use Rattle.sheet_closure.proofs.closed.are_space_rules.Given as goal

abbrev pub invariant-loop-rule : goal.invariant-loop-rule
invariant-loop-rule l =
    list_all (λ r. is_space_test r.test) (drop l.rule-index l.all)
    ≡ list_all (λ r. is_space_test r.test) l.all
