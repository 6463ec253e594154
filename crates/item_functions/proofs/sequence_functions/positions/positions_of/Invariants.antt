use Rattle.std.proofs.Common.{◌≡◌, ◌++◌, suc, drop}
use Rattle.std.specs.Prelude.{pos}
use Rattle.item_functions.specs.SequenceFunctions.Positions.{positions_of}
use Rattle.item_functions.proofs.sequence_functions.positions.positions_of.Given as goal

abbrev pub invariant-loop-item : goal.invariant-loop-item
invariant-loop-item l = record {
  position : l.position ≡ pos l.item-index;
  left : l.made ++ positions_of l.value (suc l.item-index) (drop l.item-index l.items) ≡ positions_of l.value 1 l.items;
}
