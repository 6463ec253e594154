use Rattle.std.proofs.Common.{refl}
use Rattle.doc_grammar.specs.Forms.{elsewhere}
use Rattle.xml_source.proofs.EqualsLemmas.{equals_stops, assigns}
use Rattle.xml_source.proofs.SpellLemmas.{skip_then, eat_then, eat_stops, quote_behind}
use Rattle.xml_source.proofs.sources.Source.equals.Goals as goal

pub returns-then-not-eat-clause-assigns : goal.returns-then-not-eat-clause-assigns
returns-then-not-eat-clause-assigns c = λ t name st. equals_stops c.spaces-before.result _ _ _ t name st c.spaces-before.ensures.spaces c.spaces-before.ensures.ends c.if-not-eat.ensures

pub returns-then-not-eat-clause-spelled : goal.returns-then-not-eat-clause-spelled
returns-then-not-eat-clause-spelled c = λ inner. skip_then _ _ _ _ c.spaces-before.ensures.spaces c.spaces-before.ensures.ends (eat_stops elsewhere _ _ _ c.if-not-eat.ensures)

pub returns-clause-assigns : goal.returns-clause-assigns
returns-clause-assigns c = λ t name st.
    assigns c.spaces-before.result c.spaces-behind.result _ _ _ _ _ c.quote.result t name st c.spaces-before.ensures.spaces c.if-not-eat.ensures c.spaces-behind.ensures.spaces c.spaces-behind.ensures.ends c.quote.ensures.quotes

pub returns-clause-spelled : goal.returns-clause-spelled
returns-clause-spelled c =
    quote_behind c.quote.result _ _ _
    (λ inner. skip_then _ _ _ _ c.spaces-before.ensures.spaces c.spaces-before.ensures.ends
    (eat_then elsewhere _ _ c.if-not-eat.ensures (skip_then _ _ _ _ c.spaces-behind.ensures.spaces c.spaces-behind.ensures.ends refl)))
    c.quote.ensures.quotes
