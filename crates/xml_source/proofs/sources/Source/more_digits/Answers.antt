use Rattle.std.proofs.Common.{◌∙◌}
use Rattle.xml_source.proofs.ReferenceLemmas.{result_from}
use Rattle.xml_source.proofs.sources.Source.more_digits.Goals as goal

pub returns-then-is_next-clause-reads : goal.returns-then-is_next-clause-reads
returns-then-is_next-clause-reads c = result_from _ _ _ c.numbered.result c.digits.invariant.same c.numbered.ensures.reads

pub returns-in-None-clause-reads : goal.returns-in-None-clause-reads
returns-in-None-clause-reads c = c.digits.invariant.same ∙ c.in-None.ensures.reads
