use Rattle.xml_source.proofs.NameLemmas.{plain, prefixed}
use Rattle.xml_source.proofs.sources.Source.name.Goals as goal

pub returns-then-not-eat-clause-name : goal.returns-then-not-eat-clause-name
returns-then-not-eat-clause-name c = plain _ _ _ _ c.in_ok-first.ensures.name c.if-not-eat.ensures

pub returns-clause-name : goal.returns-clause-name
returns-clause-name c = prefixed _ _ _ _ _ _ c.in_ok-first.ensures.name c.if-not-eat.ensures c.in_ok-local.ensures.name
