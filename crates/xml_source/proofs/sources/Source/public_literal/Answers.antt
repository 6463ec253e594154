use Rattle.std.proofs.Common.{ℕ}
use Rattle.doc_grammar.specs.Forms.{Form, elsewhere, one, many}
use Rattle.doc_grammar.specs.Prolog.{is_one, is_in_public}
use Rattle.xml_source.specs.PrologParts.{public_literal}
use Rattle.xml_source.proofs.SpellLemmas.{quoted_then, quoted_stops, eat_takes, takes_then}
use Rattle.xml_source.proofs.sources.Source.public_literal.Goals as goal

abbrev identifier : Form → ℕ → Form
identifier f q = many (is_in_public q) (one elsewhere (is_one q) q f)

pub returns-in_default-clause-reads : goal.returns-in_default-clause-reads
returns-in_default-clause-reads c = λ f. quoted_stops (identifier f) c.in_default.ensures.quotes

pub returns-clause-reads : goal.returns-clause-reads
returns-clause-reads c =
    takes_then public_literal (one elsewhere (is_one c.in-Some.quote) c.in-Some.quote) elsewhere c.eat.result c.args.self.now c.public_identifier.new.self c.eat.new.self
    (λ f. quoted_then (identifier f) c.in-Some.ensures.quotes.0 c.in-Some.ensures.quotes.1 (c.public_identifier.ensures.reads _))
    (eat_takes elsewhere _ _ _ _ _ c.eat.ensures)
