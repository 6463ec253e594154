use Rattle.std.proofs.Common.{refl, ◌∙◌}
use Rattle.doc_grammar.specs.Forms.{elsewhere}
use Rattle.doc_grammar.specs.Prolog.{xml_declaration, version_number}
use Rattle.xml_source.proofs.SpellLemmas.{literal_then, literal_stops, space_then, space_stops}
use Rattle.xml_source.proofs.sources.Source.xml_declaration.Goals as goal

pub returns-then-not-spaces-clause-reads : goal.returns-then-not-spaces-clause-reads
unfolding xml_declaration
returns-then-not-spaces-clause-reads c = space_stops _ c.if-not-spaces.ensures.spaces c.if-not-spaces.ensures.ends

pub returns-then-not-eat_text-clause-reads : goal.returns-then-not-eat_text-clause-reads
unfolding xml_declaration
returns-then-not-eat_text-clause-reads c = space_then _ c.if-not-spaces.ensures.spaces c.if-not-spaces.ensures.ends (literal_stops elsewhere _ _ refl c.if-not-eat_text.ensures.eaten)

pub returns-in-None-clause-reads : goal.returns-in-None-clause-reads
unfolding xml_declaration
returns-in-None-clause-reads c = space_then _ c.if-not-spaces.ensures.spaces c.if-not-spaces.ensures.ends (literal_then elsewhere _ _ _ refl c.if-not-eat_text.ensures.eaten (c.in-None.ensures.spelled version_number))

pub returns-in-Some-clause-reads : goal.returns-in-Some-clause-reads
unfolding xml_declaration
returns-in-Some-clause-reads c = space_then _ c.if-not-spaces.ensures.spaces c.if-not-spaces.ensures.ends (literal_then elsewhere _ _ _ refl c.if-not-eat_text.ensures.eaten (c.in-Some.ensures.spelled version_number ∙ c.version_number.ensures.reads))
