use Rattle.std.proofs.Common.{refl, ◌∙◌}
use Rattle.doc_grammar.specs.Forms.{elsewhere}
use Rattle.doc_grammar.specs.Prolog.{encoding_name}
use Rattle.xml_source.proofs.SpellLemmas.{literal_then, literal_stops}
use Rattle.xml_source.proofs.sources.Source.encoding_declaration.Goals as goal

pub returns-then-not-eat_text-clause-reads : goal.returns-then-not-eat_text-clause-reads
returns-then-not-eat_text-clause-reads c = literal_stops elsewhere _ _ refl c.if-not-eat_text.ensures.eaten

pub returns-in-None-clause-reads : goal.returns-in-None-clause-reads
returns-in-None-clause-reads c = literal_then elsewhere _ _ _ refl c.if-not-eat_text.ensures.eaten (c.in-None.ensures.spelled encoding_name)

pub returns-in-Some-clause-reads : goal.returns-in-Some-clause-reads
returns-in-Some-clause-reads c = literal_then elsewhere _ _ _ refl c.if-not-eat_text.ensures.eaten (c.in-Some.ensures.spelled encoding_name ∙ c.encoding_name.ensures.reads)
