use Rattle.std.proofs.Common.{◌≡◌, ◌++◌, length}
use Rattle.expr_pages.specs.Standing.{tokens_in}
use Rattle.expr_pages.proofs.settling.fill.Given as goal

abbrev pub invariant-loop-last : goal.invariant-loop-last
invariant-loop-last l =
    tokens_in l.standing.items ++ l.page
    ≡ tokens_in l.initial.standing.items ++ l.initial.page

abbrev pub decreases-loop-last : goal.decreases-loop-last
decreases-loop-last l = length l.standing.items
