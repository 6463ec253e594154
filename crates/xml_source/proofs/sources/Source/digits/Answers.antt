use Rattle.xml_source.proofs.ReferenceLemmas.{result_from}
use Rattle.xml_source.proofs.sources.Source.digits.Goals as goal

pub returns-in-Some-clause-reads : goal.returns-in-Some-clause-reads
returns-in-Some-clause-reads c = result_from _ _ _ c.more_digits.result c.in-Some.ensures.reads c.more_digits.ensures.reads
