use Rattle.xml_source.specs.References.{base_view}
use Rattle.xml_source.proofs.ReferenceLemmas.{first_some, first_none}
use Rattle.xml_source.proofs.sources.Source.first_digit.Goals as goal

pub returns-in-Some-clause-reads : goal.returns-in-Some-clause-reads
returns-in-Some-clause-reads c = first_some (base_view c.args.base) c.in-Some.d _ _ c.skip-digit.result c.in-Some.ensures.value c.skip-digit.ensures c.requires

pub returns-in-None-clause-reads : goal.returns-in-None-clause-reads
returns-in-None-clause-reads c = first_none (base_view c.args.base) _ c.in-None.ensures.value c.requires
