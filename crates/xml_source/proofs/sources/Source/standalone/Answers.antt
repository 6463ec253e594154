use Rattle.std.proofs.Common.{ℕ, refl, ◌∙◌}
use Rattle.doc_grammar.specs.Forms.{Form, elsewhere, one}
use Rattle.doc_grammar.specs.Prolog.{is_one, declaration_end}
use Rattle.xml_source.specs.PrologParts.{yes_or_no}
use Rattle.xml_source.proofs.SpellLemmas.{literal_then, literal_stops, eat_then, eat_stops}
use Rattle.xml_source.proofs.sources.Source.standalone.Goals as goal

abbrev value : ℕ → Form
value q = yes_or_no (one elsewhere (is_one q) q declaration_end)

pub returns-then-not-eat_text-clause-reads : goal.returns-then-not-eat_text-clause-reads
returns-then-not-eat_text-clause-reads c = literal_stops elsewhere _ _ refl c.if-not-eat_text.ensures.eaten

pub returns-in_default-clause-reads : goal.returns-in_default-clause-reads
returns-in_default-clause-reads c = literal_then elsewhere _ _ _ refl c.if-not-eat_text.ensures.eaten (c.in_default.ensures.spelled value)

pub returns-then-not-yes_or_no-clause-reads : goal.returns-then-not-yes_or_no-clause-reads
returns-then-not-yes_or_no-clause-reads c = literal_then elsewhere _ _ _ refl c.if-not-eat_text.ensures.eaten (c.in-Some.ensures.spelled value ∙ c.if-not-yes_or_no.ensures.reads _)

pub returns-then-not-eat-clause-reads : goal.returns-then-not-eat-clause-reads
returns-then-not-eat-clause-reads c = literal_then elsewhere _ _ _ refl c.if-not-eat_text.ensures.eaten (c.in-Some.ensures.spelled value ∙ c.if-not-yes_or_no.ensures.reads _ ∙ eat_stops elsewhere _ _ _ c.if-not-eat.ensures)

pub returns-clause-reads : goal.returns-clause-reads
returns-clause-reads c = literal_then elsewhere _ _ _ refl c.if-not-eat_text.ensures.eaten (c.in-Some.ensures.spelled value ∙ c.if-not-yes_or_no.ensures.reads _ ∙ eat_then elsewhere _ _ c.if-not-eat.ensures c.declaration_end.ensures.reads)
