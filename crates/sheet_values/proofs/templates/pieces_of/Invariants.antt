use Rattle.std.proofs.Common.{◌≡◌, ◌≤◌, ◌++◌, drop}
use Rattle.sheet_values.specs.Templates.{pieces_from, pieces_of, place_depth}
use Rattle.sheet_values.proofs.templates.pieces_of.Given as goal

abbrev pub invariant-loop-c : goal.invariant-loop-c
invariant-loop-c l = record {
  pieces : l.reading.made ++ pieces_from l.reading.place l.reading.run (drop l.c-index l.text) ≡ pieces_of l.text;
  small : place_depth l.reading.place ≤ l.c-index;
}
