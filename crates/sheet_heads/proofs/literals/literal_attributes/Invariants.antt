use Rattle.std.proofs.Common.{◌≡◌, ◌++◌, length}
use Rattle.sheet_heads.specs.Literals.{values_faults, values_value}
use Rattle.sheet_heads.proofs.literals.literal_attributes.Given as goal

abbrev pub invariant-loop-left : goal.invariant-loop-left
invariant-loop-left g l = record {
  faults : values_faults (g.R.Reader.reads l.reader) l.place l.left
      ≡ values_faults (g.R.Reader.reads l.reader) l.place l.attributes;
  value : l.made ++ values_value (g.R.Reader.reads l.reader) l.place l.left
      ≡ values_value (g.R.Reader.reads l.reader) l.place l.attributes;
}

abbrev pub decreases-loop-left : goal.decreases-loop-left
decreases-loop-left g l = length l.left
