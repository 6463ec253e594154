use Rattle.xml_source.proofs.sources.Source.take_run.Goals as goal

pub returns-clause-ends : goal.returns-clause-ends
returns-clause-ends g c = c.take_run.ensures.ends
