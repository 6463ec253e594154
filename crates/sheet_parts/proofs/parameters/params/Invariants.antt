use Rattle.std.proofs.Common.{◌≡◌, ◌++◌, length}
use Rattle.sheet_parts.specs.Parameters.{params_faults, params_value}
use Rattle.sheet_parts.proofs.parameters.params.Given as goal

abbrev pub invariant-loop-left : goal.invariant-loop-left
invariant-loop-left g l = record {
  faults : params_faults (g.R.Reader.reads l.reader) l.place l.left
      ≡ params_faults (g.R.Reader.reads l.reader) l.place l.nodes;
  value : l.made ++ params_value (g.R.Reader.reads l.reader) l.place l.left
      ≡ params_value (g.R.Reader.reads l.reader) l.place l.nodes;
}

abbrev pub decreases-loop-left : goal.decreases-loop-left
decreases-loop-left g l = length l.left
