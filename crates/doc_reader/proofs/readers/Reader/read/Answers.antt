use Rattle.std.proofs.Common.{refl}
use Rattle.xml_source.specs.Reading.{reads}
use Rattle.doc_reader.specs.Frames.{here}
use Rattle.doc_reader.proofs.ReadLemmas.{read_to_end}
use Rattle.doc_reader.proofs.readers.Reader.read.Goals as goal

pub returns-in-On : goal.returns-in-On
returns-in-On c =
    let r = c.in_ok-reader.reader in
    read_to_end _ (reads r.source (here r)) _ _ c.in_ok-parts.field-0 c.finish.result (rw (c.in_ok-reader.ensures.0, c.in_ok-reader.ensures.1) refl) c.in-On.is c.in_ok-parts.ensures.ran c.in_ok-parts.ensures.over c.finish.ensures
