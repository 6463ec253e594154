use Rattle.xml_source.proofs.ReferenceLemmas.{spelled_whole, spelled_not}
use Rattle.xml_source.proofs.sources.Source.spelled.Goals as goal

pub returns-then-eat_text-clause-reads : goal.returns-then-eat_text-clause-reads
returns-then-eat_text-clause-reads c = spelled_whole _ _ _ c.args.c c.requires c.if-eat_text.ensures.eaten

pub returns-else-eat_text-clause-reads : goal.returns-else-eat_text-clause-reads
returns-else-eat_text-clause-reads c = spelled_not _ _ _ c.args.c _ c.if-eat_text.ensures.eaten c.stop_in_entity.ensures
