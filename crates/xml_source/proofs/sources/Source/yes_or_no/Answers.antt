use Rattle.std.proofs.Common.{refl, codes}
use Rattle.doc_grammar.specs.Forms.{elsewhere}
use Rattle.xml_source.specs.PrologParts.{yes_or_no}
use Rattle.xml_source.proofs.SpellLemmas.{literal_takes, part_literal, takes_then, next_then, other_then}
use Rattle.xml_source.proofs.sources.Source.yes_or_no.Goals as goal

pub returns-then-is_next-clause-reads : goal.returns-then-is_next-clause-reads
returns-then-is_next-clause-reads c =
    takes_then yes_or_no (part_literal elsewhere (codes "yes")) elsewhere c.eat_text.result c.args.self.now c.args.self.now c.eat_text.new.self
    (λ f. next_then _ _ _ _ c.if-is_next.ensures refl)
    (literal_takes elsewhere (codes "yes") _ _ _ refl c.eat_text.ensures.eaten)

pub returns-else-is_next-clause-reads : goal.returns-else-is_next-clause-reads
returns-else-is_next-clause-reads c =
    takes_then yes_or_no (part_literal elsewhere (codes "no")) elsewhere c.eat_text-else-is_next.result c.args.self.now c.args.self.now c.eat_text-else-is_next.new.self
    (λ f. other_then _ _ _ _ c.if-is_next.ensures refl)
    (literal_takes elsewhere (codes "no") _ _ _ refl c.eat_text-else-is_next.ensures.eaten)
