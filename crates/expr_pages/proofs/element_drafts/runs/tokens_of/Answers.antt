use Rattle.std.proofs.Common.{◌≡◌, ◌<◌, length, get_or, ap, ◌∙◌}
use Rattle.std.proofs.lemmas.List.{get_or_default}
use Rattle.expr_pages.specs.ElementDrafts.Runs.{turned, waiting}
use Rattle.expr_pages.proofs.ElementDrafts.Parted.{turn_at, all_turned}
use Rattle.expr_pages.proofs.element_drafts.runs.tokens_of.Goals as goal

pub loop-c-preserved : goal.loop-c-preserved
loop-c-preserved c =
    let xs = c.args.chars.now in
    let x = c.args.value in
    let less : c.loop-c.c-index < length xs = c.loop-c-test.true in
    let same : c.c-item.result ≡ get_or xs c.loop-c.c-index 0 =
    c.c-item.is ∙ get_or_default xs c.loop-c.c-index c.c-item.result 0 less in
    turn_at x c.loop-c.tokens.items _ c.loop-c.pending _ c.loop-c.c-index xs less
    c.loop-c.invariant
    (c.in_ok-pending.ensures.tokens ∙ ap (turned x c.loop-c.tokens.items c.loop-c.pending) same)
    (c.in_ok-pending.ensures.left ∙ ap (waiting x c.loop-c.pending) same)

pub returns : goal.returns
returns c = all_turned c.args.value c.loop-c.tokens.items _ c.loop-c.pending c.loop-c.c-index
    c.args.chars.now c.loop-c-test.false c.loop-c.invariant c.in_ok-flush.ensures
