use Rattle.std.proofs.Common.{◌≡◌, ◌++◌, drop}
use Rattle.item_functions.proofs.sequence_functions.copies.push_all.Given as goal

abbrev pub invariant-loop-item : goal.invariant-loop-item
invariant-loop-item l = l.made.items ++ drop l.item-index l.items ≡ l.initial.made.items ++ l.items
