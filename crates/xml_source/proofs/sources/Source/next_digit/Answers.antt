use Rattle.xml_source.specs.References.{base_view}
use Rattle.xml_source.proofs.ReferenceLemmas.{next_none}
use Rattle.xml_source.proofs.sources.Source.next_digit.Goals as goal

pub returns-in-None-clause-reads : goal.returns-in-None-clause-reads
returns-in-None-clause-reads c = next_none (base_view c.args.base) c.args.n _ c.in-None.ensures.value c.requires.no_end
