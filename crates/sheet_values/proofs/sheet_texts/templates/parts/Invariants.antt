use Rattle.std.proofs.Common.{◌≡◌, ◌++◌, length, map}
use Rattle.sheet_values.specs.Rules.{each}
use Rattle.sheet_values.specs.SheetTexts.Templates.{piece_faults, piece_value}
use Rattle.sheet_values.proofs.sheet_texts.templates.parts.Given as goal

abbrev pub invariant-loop-left : goal.invariant-loop-left
invariant-loop-left g l = record {
  faults : each (piece_faults (g.R.Reader.reads l.reader) l.place) l.left
      ≡ each (piece_faults (g.R.Reader.reads l.reader) l.place) l.pieces;
  value : l.made ++ map (piece_value (g.R.Reader.reads l.reader) l.place) l.left
      ≡ map (piece_value (g.R.Reader.reads l.reader) l.place) l.pieces;
}

abbrev pub decreases-loop-left : goal.decreases-loop-left
decreases-loop-left g l = length l.left
