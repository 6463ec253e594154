use Rattle.xml_source.proofs.ReferenceLemmas.{result_from, hash_x_next}
use Rattle.xml_source.proofs.sources.Source.by_number.Goals as goal

pub returns-then-eat-clause-reads : goal.returns-then-eat-clause-reads
returns-then-eat-clause-reads c = result_from _ _ _ c.digits.result (hash_x_next _ _ c.if-eat.ensures) c.digits.ensures.reads
