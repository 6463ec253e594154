use Rattle.xml_source.proofs.SpellLemmas.{in_encoding, encoding_over}
use Rattle.xml_source.proofs.sources.Source.stop_in_encoding.Goals as goal

pub returns-in-Some : goal.returns-in-Some
returns-in-Some c = in_encoding _ _ c.in-Some.ensures

pub returns-in-None : goal.returns-in-None
returns-in-None c = encoding_over _ c.in-None.ensures
