use Rattle.std.proofs.Common.{◌≡◌, drop, map}
use Rattle.xdm_items.specs.Conversion.{converted_items}
use Rattle.xdm_items.specs.Values.{atomized_item}
use Rattle.xdm_items.proofs.ConversionLemmas.{onto}
use Rattle.xdm_items.proofs.conversions.converted_items.Given as goal

abbrev pub invariant-loop-item : goal.invariant-loop-item
invariant-loop-item l = onto l.made (converted_items l.to (map atomized_item (drop l.item-index l.items))) ≡ converted_items l.to (map atomized_item l.items)
