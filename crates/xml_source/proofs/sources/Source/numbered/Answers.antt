use Rattle.xml_source.specs.References.{base_view}
use Rattle.xml_source.proofs.ReferenceLemmas.{number_refused}
use Rattle.xml_source.proofs.sources.Source.numbered.Goals as goal
use Rattle.xt_names.proofs.CharacterLemmas.{no_scalar}

pub returns-in-None-clause-reads : goal.returns-in-None-clause-reads
returns-in-None-clause-reads c = number_refused (base_view c.args.base) c.args.n _ c.requires (no_scalar c.args.n c.in-None.ensures.cases)
