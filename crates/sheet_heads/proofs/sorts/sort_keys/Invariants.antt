use Rattle.std.proofs.Common.{◌≡◌, ◌++◌, length}
use Rattle.sheet_heads.specs.Sorts.{keys_faults, keys_value}
use Rattle.sheet_heads.proofs.sorts.sort_keys.Given as goal

abbrev pub invariant-loop-left : goal.invariant-loop-left
invariant-loop-left g l = record {
  faults : keys_faults (g.R.Reader.reads l.reader) l.place l.left
      ≡ keys_faults (g.R.Reader.reads l.reader) l.place l.nodes;
  value : l.made ++ keys_value (g.R.Reader.reads l.reader) l.place l.left
      ≡ keys_value (g.R.Reader.reads l.reader) l.place l.nodes;
}

abbrev pub decreases-loop-left : goal.decreases-loop-left
decreases-loop-left g l = length l.left
