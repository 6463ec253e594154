use Rattle.std.proofs.Common.{◌≡◌, drop}
use Rattle.global_needs.specs.Rows.{with_rules}
use Rattle.global_needs.proofs.rows.push_rules.Given as goal

abbrev pub invariant-loop-rule : goal.invariant-loop-rule
invariant-loop-rule l =
    with_rules l.shape l.graph.items (drop l.rule-index l.rules)
    ≡ with_rules l.shape l.fn.graph.items l.rules
