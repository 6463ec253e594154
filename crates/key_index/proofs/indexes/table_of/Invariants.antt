use Rattle.std.proofs.Common.{◌≡◌, [], drop}
use Rattle.key_index.specs.Keys.{with_pairs}
use Rattle.key_index.proofs.indexes.table_of.Given as goal

abbrev pub invariant-loop-pair : goal.invariant-loop-pair
invariant-loop-pair l = record {
  place : l.place ≡ l.pair-index;
  left : with_pairs l.table l.place (drop l.pair-index l.pairs) ≡ with_pairs [] 0 l.pairs;
}
