use Rattle.std.proofs.Common.{◌≡◌, ◌++◌, drop, map}
use Rattle.item_functions.specs.SequenceFunctions.Values.{entry_value}
use Rattle.item_functions.proofs.sequence_functions.values.values_of.Given as goal

abbrev pub invariant-loop-entry : goal.invariant-loop-entry
invariant-loop-entry l = l.made.items ++ map entry_value (drop l.entry-index l.entries) ≡ map entry_value l.entries
