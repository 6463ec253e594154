use Rattle.std.proofs.lemmas.Str.{chars-nil}
use Rattle.xml_source.proofs.buffers.Buffer.clear.Goals as goal

pub returns : goal.returns
returns c = rw c.clear.ensures.bytes chars-nil
