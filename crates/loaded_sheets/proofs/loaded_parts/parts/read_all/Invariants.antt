use Rattle.std.proofs.Common.{◌≡◌, ◌++◌, length}
use Rattle.loaded_sheets.specs.LoadedParts.Parts.{all_faults, all_values}
use Rattle.loaded_sheets.proofs.loaded_parts.parts.read_all.Given as goal

abbrev pub invariant-loop-left : goal.invariant-loop-left
invariant-loop-left g l = record {
  faults : all_faults (g.R.Reader.reads l.reader) l.modes l.called l.left
      ≡ all_faults (g.R.Reader.reads l.reader) l.modes l.called l.modules;
  value : l.all ++ all_values (g.R.Reader.reads l.reader) l.modes l.called l.left
      ≡ all_values (g.R.Reader.reads l.reader) l.modes l.called l.modules;
}

abbrev pub decreases-loop-left : goal.decreases-loop-left
decreases-loop-left g l = length l.left
