use Rattle.std.proofs.Common.{◌≡◌, ◌++◌, length}
use Rattle.sheet_parts.specs.Parameters.{arguments_faults, arguments_value}
use Rattle.sheet_parts.proofs.parameters.arguments.Given as goal

abbrev pub invariant-loop-left : goal.invariant-loop-left
invariant-loop-left g l = record {
  faults : arguments_faults (g.R.Reader.reads l.reader) l.place l.left
      ≡ arguments_faults (g.R.Reader.reads l.reader) l.place l.nodes;
  value : l.made ++ arguments_value (g.R.Reader.reads l.reader) l.place l.left
      ≡ arguments_value (g.R.Reader.reads l.reader) l.place l.nodes;
}

abbrev pub decreases-loop-left : goal.decreases-loop-left
decreases-loop-left g l = length l.left
