use Rattle.std.proofs.Common.{◌≡◌, ◌≤◌, length}
use Rattle.doc_grammar.specs.Machine.{Stack, tagged}
use Rattle.xml_source.specs.Reading.{reads}
use Rattle.doc_reader.specs.View.{tag_of}
use Rattle.doc_reader.proofs.tags.tag.Given as goal

abbrev pub invariant-attributes : goal.invariant-attributes
invariant-attributes l = record {
  same : (st : Stack) → reads l.initial.source (tagged (tag_of l.initial.tag) st) ≡ reads l.source (tagged (tag_of l.tag) st);
  name : l.tag.name ≡ l.initial.tag.name;
  shorter : length l.source ≤ length l.initial.source;
}

abbrev pub decreases-attributes : goal.decreases-attributes
decreases-attributes l = length l.source
