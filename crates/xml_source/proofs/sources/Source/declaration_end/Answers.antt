use Rattle.doc_grammar.specs.Forms.{elsewhere}
use Rattle.xml_source.proofs.SpellLemmas.{skip_then, eat_then, eat_stops, last_then, last_stops}
use Rattle.xml_source.proofs.sources.Source.declaration_end.Goals as goal

pub returns-then-not-eat-clause-reads : goal.returns-then-not-eat-clause-reads
returns-then-not-eat-clause-reads c = skip_then _ _ _ _ c.spaces-space.ensures.spaces c.spaces-space.ensures.ends (eat_stops elsewhere _ _ _ c.if-not-eat.ensures)

pub returns-then-not-eat-2-clause-reads : goal.returns-then-not-eat-2-clause-reads
returns-then-not-eat-2-clause-reads c =
    skip_then _ _ _ _ c.spaces-space.ensures.spaces c.spaces-space.ensures.ends (eat_then elsewhere _ _ c.if-not-eat.ensures (last_stops elsewhere _ _ c.if-not-eat-2.ensures))

pub returns-clause-reads : goal.returns-clause-reads
returns-clause-reads c =
    skip_then _ _ _ _ c.spaces-space.ensures.spaces c.spaces-space.ensures.ends (eat_then elsewhere _ _ c.if-not-eat.ensures (last_then elsewhere _ c.if-not-eat-2.ensures))
