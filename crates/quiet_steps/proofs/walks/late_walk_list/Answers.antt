use Rattle.std.proofs.Common.{ap, sym, ◌∙◌}
use Rattle.expr_meaning.specs.Outcomes.Outcome.{Ends}
use Rattle.quiet_steps.proofs.walks.late_walk_list.Goals as goal

pub returns : goal.returns
returns c =
    λ program k.
    c.in_ok-items.ensures.value program k ∙ ap (λ xs. Ends xs k) (sym c.in_ok-to_list.ensures)
