use Rattle.std.proofs.Common.{◌≡◌, drop, IsTrue}
use Rattle.std.specs.Str.{chars}
use Rattle.sheet_table.specs.Elements.{element_in}
use Rattle.sheet_table.specs.Texts.{entries_as, are_ascii_entries}
use Rattle.sheet_table.proofs.elements.element_in.Given as goal

abbrev pub invariant-loop-entry : goal.invariant-loop-entry
invariant-loop-entry l = record {
  same : element_in (entries_as l.entries) (chars l.local) ≡ element_in (entries_as (drop l.entry-index l.entries)) (chars l.local);
  ascii : IsTrue (are_ascii_entries (drop l.entry-index l.entries));
}
