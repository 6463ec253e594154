use Rattle.std.proofs.Common.{◌∙◌, refl}
use Rattle.doc_grammar.specs.Forms.{encoding, one}
use Rattle.doc_grammar.specs.Prolog.{is_one}
use Rattle.xml_source.specs.PrologParts.{utf8_name}
use Rattle.xml_source.proofs.SpellLemmas.{literal_then, literal_stops, eat_takes, takes_then}
use Rattle.xml_source.proofs.sources.Source.is_utf8_named.Goals as goal

pub returns-then-not-letter-clause-reads : goal.returns-then-not-letter-clause-reads
returns-then-not-letter-clause-reads c = λ f. c.if-not-letter.ensures.reads _

pub returns-then-not-letter-2-clause-reads : goal.returns-then-not-letter-2-clause-reads
returns-then-not-letter-2-clause-reads c = λ f. c.if-not-letter.ensures.reads _ ∙ c.if-not-letter-2.ensures.reads _

pub returns-then-not-letter-3-clause-reads : goal.returns-then-not-letter-3-clause-reads
returns-then-not-letter-3-clause-reads c = λ f. c.if-not-letter.ensures.reads _ ∙ c.if-not-letter-2.ensures.reads _ ∙ c.if-not-letter-3.ensures.reads _

pub returns-then-not-eat_text-clause-reads : goal.returns-then-not-eat_text-clause-reads
returns-then-not-eat_text-clause-reads c = λ f. c.if-not-letter.ensures.reads _ ∙ c.if-not-letter-2.ensures.reads _ ∙ c.if-not-letter-3.ensures.reads _ ∙ literal_stops encoding _ _ refl c.if-not-eat_text.ensures.eaten

pub returns-clause-reads : goal.returns-clause-reads
returns-clause-reads c =
    takes_then (utf8_name c.args.quote) (one encoding (is_one c.args.quote) c.args.quote) encoding c.eat.result c.args.self.now c.eat_text.new.self c.eat.new.self
    (λ f. c.if-not-letter.ensures.reads _ ∙ c.if-not-letter-2.ensures.reads _ ∙ c.if-not-letter-3.ensures.reads _ ∙ literal_then encoding _ _ _ refl c.if-not-eat_text.ensures.eaten refl)
    (eat_takes encoding _ _ _ _ _ c.eat.ensures)
