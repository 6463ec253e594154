use Rattle.std.proofs.Common.{refl}
use Rattle.text_functions.proofs.TextLemmas.{no_xml_character}
use Rattle.text_functions.proofs.codepoints.character_at.Goals as goal

pub returns-in-None : goal.returns-in-None
returns-in-None c = rw (no_xml_character c.args.code c.in-None.ensures.cases) refl
