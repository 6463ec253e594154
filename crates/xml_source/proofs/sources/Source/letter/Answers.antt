use Rattle.xml_source.proofs.SpellLemmas.{small_letter, letter_takes}
use Rattle.xml_source.proofs.sources.Source.letter.Goals as goal

pub returns-then-eat-clause-reads : goal.returns-then-eat-clause-reads
returns-then-eat-clause-reads c = λ f. small_letter _ f c.if-eat.ensures

pub returns-clause-reads : goal.returns-clause-reads
returns-clause-reads c = letter_takes _ _ c.eat-2.result _ _ _ c.requires c.if-eat.ensures c.eat-2.ensures
