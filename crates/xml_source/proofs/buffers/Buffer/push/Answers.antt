use Rattle.xt_names.proofs.TextLemmas.{chars_pushed, chars-encode}
use Rattle.xml_source.proofs.buffers.Buffer.push.Goals as goal

pub returns : goal.returns
returns c =
    rw (chars-encode c.args.c c.ranges.c.0) at (chars_pushed c.push.result c.self.inside.text _ _ _ c.push.ensures.bytes c.self.view_is)
