use Rattle.xml_source.proofs.ReferenceLemmas.{result_from, hash_next}
use Rattle.xml_source.proofs.sources.Source.reference.Goals as goal

pub returns-then-eat-clause-reads : goal.returns-then-eat-clause-reads
returns-then-eat-clause-reads c = result_from _ _ _ c.by_number.result (hash_next _ _ c.if-eat.ensures) c.by_number.ensures.reads
