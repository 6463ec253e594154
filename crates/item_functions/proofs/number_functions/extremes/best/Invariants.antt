use Rattle.std.proofs.Common.{◌≡◌, drop}
use Rattle.item_functions.specs.NumberFunctions.Extremes.{best}
use Rattle.item_functions.proofs.number_functions.extremes.best.Given as goal

abbrev pub invariant-loop-atom : goal.invariant-loop-atom
invariant-loop-atom l = best l.op l.best (drop l.atom-index l.rest) ≡ best l.op l.first l.rest
