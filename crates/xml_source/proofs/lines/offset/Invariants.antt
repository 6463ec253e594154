use Rattle.std.proofs.Common.{◌≡◌, ◌+◌, ◌≤◌, length, false}
use Rattle.std.specs.Str.{chars}
use Rattle.doc_grammar.specs.Lines.{bytes_before}
use Rattle.xml_source.specs.LineEnds.{size_of}
use Rattle.xml_source.proofs.lines.offset.Given as goal

abbrev pub invariant-loop-c : goal.invariant-loop-c
invariant-loop-c l = record {
  place : l.bytes + bytes_before l.cr l.source l.left ≡ bytes_before false (chars l.text) l.taken;
  room : l.bytes + size_of l.source ≤ length l.text;
}

abbrev pub decreases-loop-c : goal.decreases-loop-c
decreases-loop-c l = length l.source
