use Rattle.xt_names.proofs.TextLemmas.{chars_pushed}
use Rattle.xml_source.proofs.buffers.Buffer.push_str.Goals as goal

pub returns : goal.returns
returns c = chars_pushed c.push_str.result c.self.inside.text _ _ _ c.push_str.ensures.bytes c.self.view_is
