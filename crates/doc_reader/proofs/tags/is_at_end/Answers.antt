use Rattle.doc_reader.proofs.TagLemmas.{at_end_by_first}
use Rattle.doc_reader.proofs.tags.is_at_end.Goals as goal

pub returns-in-Some-eq62 : goal.returns-in-Some-eq62
returns-in-Some-eq62 c = at_end_by_first _ _ c.in-Some-eq62.ensures c.in-Some-eq62.field-0-test
