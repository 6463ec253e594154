use Rattle.std.proofs.Common.{drop}
use Rattle.expr_pages.proofs.ElementDrafts.Parted.{Kept}
use Rattle.expr_pages.proofs.element_drafts.runs.tokens_of.Given as goal

abbrev pub invariant-loop-c : goal.invariant-loop-c
invariant-loop-c l = Kept l.value l.tokens.items l.pending (drop l.c-index l.chars) l.chars
