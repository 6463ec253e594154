use Rattle.std.proofs.lemmas.Result.{err_from_is_err_and}
use Rattle.node_builder.proofs.Passes.{content_starts, content_ends, content_stops}
use Rattle.node_builder.proofs.contents.content_of.Goals as goal

pub loop-item-init : goal.loop-item-init
loop-item-init c = content_starts c.args.side c.args.holder c.args.items.now _ _ c.new-builder.ensures c.as_slice-item-items.ensures

pub returns-in_err-push_item : goal.returns-in_err-push_item
returns-in_err-push_item c =
    let p = err_from_is_err_and c.from_residual.result c.from_residual.ensures.1 in
    rw (p.1, p.2) (content_stops _ c.args.side c.args.holder c.args.items.now _ _ _ _ _ c.loop-item.invariant c.loop-item-test.true c.item-item.is c.in_err-push_item.ensures)

pub returns : goal.returns
returns c = content_ends c.args.side c.args.holder c.args.items.now _ _ _ _ c.loop-item.invariant c.loop-item-test.false c.finish.ensures
