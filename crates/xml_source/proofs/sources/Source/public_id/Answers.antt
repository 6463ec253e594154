use Rattle.std.proofs.Common.{refl, ◌∙◌}
use Rattle.doc_grammar.specs.Forms.{elsewhere}
use Rattle.xml_source.proofs.SpellLemmas.{literal_then, literal_stops, space_then, space_stops}
use Rattle.xml_source.proofs.sources.Source.public_id.Goals as goal

pub returns-then-not-eat_text-clause-reads : goal.returns-then-not-eat_text-clause-reads
returns-then-not-eat_text-clause-reads c = literal_stops elsewhere _ _ refl c.if-not-eat_text.ensures.eaten

pub returns-then-not-spaces-clause-reads : goal.returns-then-not-spaces-clause-reads
returns-then-not-spaces-clause-reads c = literal_then elsewhere _ _ _ refl c.if-not-eat_text.ensures.eaten (space_stops _ c.if-not-spaces.ensures.spaces c.if-not-spaces.ensures.ends)

pub returns-then-not-public_literal-clause-reads : goal.returns-then-not-public_literal-clause-reads
returns-then-not-public_literal-clause-reads c = literal_then elsewhere _ _ _ refl c.if-not-eat_text.ensures.eaten (space_then _ c.if-not-spaces.ensures.spaces c.if-not-spaces.ensures.ends (c.if-not-public_literal.ensures.reads _))

pub returns-then-not-spaces-2-clause-reads : goal.returns-then-not-spaces-2-clause-reads
returns-then-not-spaces-2-clause-reads c = literal_then elsewhere _ _ _ refl c.if-not-eat_text.ensures.eaten (space_then _ c.if-not-spaces.ensures.spaces c.if-not-spaces.ensures.ends (c.if-not-public_literal.ensures.reads _ ∙ space_stops _ c.if-not-spaces-2.ensures.spaces c.if-not-spaces-2.ensures.ends))

pub returns-clause-reads : goal.returns-clause-reads
returns-clause-reads c = literal_then elsewhere _ _ _ refl c.if-not-eat_text.ensures.eaten (space_then _ c.if-not-spaces.ensures.spaces c.if-not-spaces.ensures.ends (c.if-not-public_literal.ensures.reads _ ∙ space_then _ c.if-not-spaces-2.ensures.spaces c.if-not-spaces-2.ensures.ends c.system_literal.ensures.reads))
