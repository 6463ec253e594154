use Rattle.std.proofs.lemmas.Str.{chars-nil}
use Rattle.xml_source.proofs.buffers.Buffer.new.Goals as goal

pub returns : goal.returns
returns c = rw c.new.ensures.bytes chars-nil
