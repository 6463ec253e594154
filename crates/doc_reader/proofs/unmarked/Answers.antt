use Rattle.doc_reader.proofs.TextLemmas.{behind_mark, mark_counts}
use Rattle.doc_reader.proofs.unmarked.Goals as goal

pub returns-in-Some-eq65279-clause-text : goal.returns-in-Some-eq65279-clause-text
returns-in-Some-eq65279-clause-text c =
    behind_mark _ _ _ _ c.in-Some-eq65279.field-0 c.chars-chars.ensures.rest c.utf8.text c.in-Some-eq65279.ensures.steps.0 c.as_str.ensures c.in-Some-eq65279.field-0-test

pub returns-in-Some-eq65279-clause-size : goal.returns-in-Some-eq65279-clause-size
returns-in-Some-eq65279-clause-size c =
    mark_counts _ _ _ _ c.in-Some-eq65279.field-0 c.chars-chars.ensures.rest c.utf8.text c.in-Some-eq65279.ensures.steps.0 c.as_str.ensures c.in-Some-eq65279.field-0-test
