use Rattle.std.proofs.Common.{ℕ, ◌∙◌}
use Rattle.doc_grammar.specs.Forms.{Form, elsewhere, one, many}
use Rattle.doc_grammar.specs.Prolog.{is_one, is_in_system, doctype_close}
use Rattle.xml_source.proofs.SpellLemmas.{quoted_then, eat_then, eat_stops}
use Rattle.xml_source.proofs.sources.Source.system_literal.Goals as goal

abbrev identifier : ℕ → Form
identifier q = many (is_in_system q) (one elsewhere (is_one q) q doctype_close)

pub returns-then-not-eat-clause-reads : goal.returns-then-not-eat-clause-reads
returns-then-not-eat-clause-reads c = quoted_then identifier c.in-Some.ensures.quotes.0 c.in-Some.ensures.quotes.1 (c.identifier.ensures.reads _ ∙ eat_stops elsewhere _ _ _ c.if-not-eat.ensures)

pub returns-clause-reads : goal.returns-clause-reads
returns-clause-reads c = quoted_then identifier c.in-Some.ensures.quotes.0 c.in-Some.ensures.quotes.1 (c.identifier.ensures.reads _ ∙ eat_then elsewhere _ _ c.if-not-eat.ensures c.doctype_end.ensures.reads)
