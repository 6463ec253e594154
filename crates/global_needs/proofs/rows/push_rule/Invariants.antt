use Rattle.std.proofs.Common.{◌≡◌, drop}
use Rattle.global_needs.specs.Rows.{with_modes}
use Rattle.global_needs.proofs.rows.push_rule.Given as goal

abbrev pub invariant-loop-mode : goal.invariant-loop-mode
invariant-loop-mode l =
    with_modes l.shape l.place l.graph.items (drop l.mode-index l.modes)
    ≡ with_modes l.shape l.place l.fn.graph.items l.modes
