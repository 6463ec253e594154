use Rattle.std.proofs.Common.{◌≡◌, length}
use Rattle.xml_source.specs.Reading.{reads}
use Rattle.doc_reader.specs.Frames.{here}
use Rattle.doc_reader.proofs.readers.Reader.parts.Given as goal

abbrev pub invariant-parts : goal.invariant-parts
invariant-parts l = reads l.initial.self.source (here l.initial.self) ≡ reads l.self.source (here l.self)

abbrev pub decreases-parts : goal.decreases-parts
decreases-parts l = length l.self.source
