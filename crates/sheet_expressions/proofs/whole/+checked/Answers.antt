use Rattle.std.proofs.Common.{◌≡◌, ◌≤◌, ◌<◌, length, Some, None, get_or, ◌∙◌, sym, ap, arith}
use Rattle.sheet_expressions.specs.Checked.{checked}
use Rattle.sheet_expressions.proofs.PartLemmas.{begins_behind, more_at, stops_at, ends_at}
use Rattle.sheet_expressions.proofs.whole.+checked.Goals as goal

pub checked_parts-loop-raw-init : goal.checked_parts-loop-raw-init
checked_parts-loop-raw-init t c =
    rw c.in_ok-made.ensures.items (begins_behind c.args.prefixes.now c.args.in_group c.args.raws.now)

pub checked_parts-loop-raw-preserved : goal.checked_parts-loop-raw-preserved
checked_parts-loop-raw-preserved t c =
    let lt : c.loop-raw.raw-index < length c.args.raws.now = omega arith in
    let e : Some c.in-Some.part ≡ checked c.args.prefixes.now c.args.in_group (get_or c.args.raws.now c.loop-raw.raw-index c.raw-item.result) =
    sym c.in-Some.is ∙ c.in_ok-part.ensures ∙ ap (checked c.args.prefixes.now c.args.in_group) c.raw-item.is in
    rw c.in_ok-push-in-Some.ensures.items
    (c.loop-raw.invariant ∙ more_at c.args.prefixes.now c.args.in_group c.args.raws.now c.loop-raw.raw-index c.raw-item.result c.loop-raw.made.items c.in-Some.part lt e)

pub checked_parts-returns-in-None : goal.checked_parts-returns-in-None
checked_parts-returns-in-None t c =
    let lt : c.loop-raw.raw-index < length c.args.raws.now = omega arith in
    let e : None ≡ checked c.args.prefixes.now c.args.in_group (get_or c.args.raws.now c.loop-raw.raw-index c.raw-item.result) =
    sym c.in-None.is ∙ c.in_ok-part.ensures ∙ ap (checked c.args.prefixes.now c.args.in_group) c.raw-item.is in
    stops_at c.args.prefixes.now c.args.in_group c.args.raws.now c.loop-raw.raw-index c.raw-item.result c.loop-raw.made.items lt e c.loop-raw.invariant

pub checked_parts-returns : goal.checked_parts-returns
checked_parts-returns t c =
    let end : length c.args.raws.now ≤ c.loop-raw.raw-index = omega arith in
    rw c.of_vec.ensures (ends_at c.args.prefixes.now c.args.in_group c.args.raws.now c.loop-raw.raw-index c.loop-raw.made.items end c.loop-raw.invariant)
