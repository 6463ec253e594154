use Rattle.doc_reader.proofs.ValueLemmas.{value_refers_to, value_space_at, value_stops_at}
use Rattle.doc_reader.proofs.values.value_character.Goals as goal

pub returns-then-eat-clause-reads : goal.returns-then-eat-clause-reads
returns-then-eat-clause-reads c = λ q t name read st e n p. value_refers_to _ _ _ c.reference.result t name q read st e c.if-eat.ensures c.reference.ensures.reads

pub returns-then-not-is_space_next-clause-reads : goal.returns-then-not-is_space_next-clause-reads
returns-then-not-is_space_next-clause-reads c = λ q t name read st e n p. value_stops_at _ _ t name q read st c.if-eat.ensures n p c.if-not-is_space_next.ensures

pub returns-clause-reads : goal.returns-clause-reads
returns-clause-reads c = λ q t name read st e n p.
    let k = c.if-not-is_space_next.ensures in
    value_space_at _ _ _ k.0 c.skip-space.result t name q read st c.if-eat.ensures.0 k.1 k.2 c.skip-space.ensures n
