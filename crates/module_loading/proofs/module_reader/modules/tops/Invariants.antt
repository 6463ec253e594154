use Rattle.std.proofs.Common.{◌≡◌, ◌++◌, length, false}
use Rattle.module_loading.specs.ModuleReader.Modules.{tops_faults, tops_value}
use Rattle.module_loading.proofs.module_reader.modules.tops.Given as goal

abbrev pub invariant-loop-left : goal.invariant-loop-left
invariant-loop-left g l = record {
  faults : tops_faults (g.R.Reader.reads l.reader) l.place l.late l.left
      ≡ tops_faults (g.R.Reader.reads l.reader) l.place false l.nodes;
  value : l.made ++ tops_value (g.R.Reader.reads l.reader) l.place l.left
      ≡ tops_value (g.R.Reader.reads l.reader) l.place l.nodes;
}

abbrev pub decreases-loop-left : goal.decreases-loop-left
decreases-loop-left g l = length l.left
