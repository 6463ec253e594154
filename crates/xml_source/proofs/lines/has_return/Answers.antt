use Rattle.std.proofs.Common.{sym, ◌∙◌}
use Rattle.xml_source.proofs.LineLemmas.{no_return}
use Rattle.xml_source.proofs.lines.has_return.Goals as goal

pub returns : goal.returns
returns c none = no_return _ c.memchr.result c.utf8.text (rw c.as_bytes.ensures.value at c.memchr.ensures) (sym c.is_some.ensures ∙ none)
