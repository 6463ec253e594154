use Rattle.std.proofs.Common.{◌≡◌, ◌++◌, length}
use Rattle.expr_pages.proofs.element_drafts.runs.push_tokens.Given as goal

abbrev pub invariant-loop-token : goal.invariant-loop-token
invariant-loop-token l = l.left.items ++ l.draft ≡ l.initial.left.items ++ l.initial.draft

abbrev pub decreases-loop-token : goal.decreases-loop-token
decreases-loop-token l = length l.left.items
