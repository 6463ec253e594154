use Rattle.xml_source.proofs.sources.Source.eat.Goals as goal

pub returns : goal.returns
returns c = rw c.self.view_is at c.eat.ensures
