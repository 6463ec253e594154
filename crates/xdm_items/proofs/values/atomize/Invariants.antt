use Rattle.std.proofs.Common.{◌≡◌, ◌++◌, drop, map}
use Rattle.xdm_items.specs.Values.{atomized_item}
use Rattle.xdm_items.proofs.values.atomize.Given as goal

abbrev pub invariant-loop-item : goal.invariant-loop-item
invariant-loop-item l = l.atoms ++ map atomized_item (drop l.item-index l.items) ≡ map atomized_item l.items
