use Rattle.doc_reader.proofs.ElementLemmas.{end_differs, end_of_tag}
use Rattle.doc_reader.proofs.elements.end_tag.Goals as goal

pub returns-then-not-end_name-clause-ends : goal.returns-then-not-end_name-clause-ends
returns-then-not-end_name-clause-ends c = λ st. end_differs _ _ _ st c.if-not-end_name.ensures.eaten

pub returns-clause-ends : goal.returns-clause-ends
returns-clause-ends c = λ st.
    end_of_tag _ _ _ _ _ c.spaces-space.result c.eat.result st c.if-not-end_name.ensures.eaten c.spaces-space.ensures.spaces c.spaces-space.ensures.ends c.eat.ensures
