use Rattle.std.proofs.Common.{◌≡◌, ◌≤◌, length}
use Rattle.doc_grammar.specs.RawNames.{RawName, RawTag}
use Rattle.doc_grammar.specs.Machine.{Stack, valued}
use Rattle.xml_source.specs.Reading.{reads}
use Rattle.doc_reader.proofs.values.value.Given as goal

abbrev pub invariant-parts : goal.invariant-parts
invariant-parts l = record {
  same : (t : RawTag) (name : RawName) (st : Stack) → reads l.initial.source (valued t name l.quote l.initial.value st) ≡ reads l.source (valued t name l.quote l.value st);
  shorter : length l.source ≤ length l.initial.source;
}

abbrev pub decreases-parts : goal.decreases-parts
decreases-parts l = length l.source
