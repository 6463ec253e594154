use Rattle.std.proofs.Common.{◌≡◌, ◌++◌}
use Rattle.expr_pages.specs.Standing.{tokens_in}
use Rattle.expr_pages.proofs.settling.settle.Given as goal

abbrev pub invariant-loop : goal.invariant-loop
invariant-loop l =
    tokens_in l.standing.items ++ l.draft
    ≡ tokens_in l.initial.standing.items ++ l.initial.draft
