use Rattle.std.proofs.Common.{◌≡◌, drop}
use Rattle.item_functions.specs.NumberFunctions.Extremes.{operands}
use Rattle.item_functions.proofs.NumberFunctions.ExtremeLemmas.{onto}
use Rattle.item_functions.proofs.number_functions.extremes.operands.Given as goal

abbrev pub invariant-loop-item : goal.invariant-loop-item
invariant-loop-item l = onto l.made (operands (drop l.item-index l.items)) ≡ operands l.items
