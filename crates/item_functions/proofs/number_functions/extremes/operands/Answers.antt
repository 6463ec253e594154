use Rattle.std.proofs.Common.{◌∙◌}
use Rattle.item_functions.proofs.NumberFunctions.ExtremeLemmas.{begins, goes_on, breaks_off, ends}
use Rattle.item_functions.proofs.number_functions.extremes.operands.Goals as goal

pub loop-item-init : goal.loop-item-init
loop-item-init c = begins c.args.items.now _ c.new-made.ensures

pub returns : goal.returns
returns c = ends c.args.items.now c.loop-item.item-index c.loop-item.made c.loop-item-test.false c.loop-item.invariant

pub loop-item-preserved : goal.loop-item-preserved
loop-item-preserved c =
    goes_on c.args.items.now c.loop-item.item-index c.item-item.result c.loop-item.made c.push.new.self c.in-Ok.atom c.loop-item-test.true c.item-item.is c.in-Ok.ensures c.in_ok-push-in-Ok.ensures.ok
    ∙ c.loop-item.invariant

pub returns-in-Err : goal.returns-in-Err
returns-in-Err c =
    breaks_off c.args.items.now c.loop-item.item-index c.item-item.result c.loop-item.made c.in-Err.fault c.loop-item-test.true c.item-item.is c.in-Err.ensures c.loop-item.invariant
