use Rattle.std.proofs.Common.{◌∙◌}
use Rattle.xdm_items.proofs.ConversionLemmas.{begins, goes_on, breaks_off, ends}
use Rattle.xdm_items.proofs.conversions.converted_items.Goals as goal

pub loop-item-init : goal.loop-item-init
loop-item-init c = begins c.args.to c.args.items.now _ c.new-made.ensures

pub loop-item-preserved : goal.loop-item-preserved
loop-item-preserved c =
    goes_on _ c.args.items.now c.loop-item.item-index c.item-item.result _ _ c.loop-item-test.true c.item-item.is c.in-Ok.ensures ∙ c.loop-item.invariant

pub returns-in-Err : goal.returns-in-Err
returns-in-Err c =
    breaks_off _ c.args.items.now c.loop-item.item-index c.item-item.result c.loop-item.made c.push_converted.new.made c.in-Err.fault c.loop-item-test.true c.item-item.is c.in-Err.ensures c.loop-item.invariant

pub returns : goal.returns
returns c = ends _ c.args.items.now c.loop-item.item-index c.loop-item.made c.loop-item-test.false c.loop-item.invariant
