use Rattle.doc_reader.proofs.ValueLemmas.{single_passes, single_ends}
use Rattle.doc_reader.proofs.values.plain_value.Goals as goal

pub returns-else-quote-eq34-clause-passes : goal.returns-else-quote-eq34-clause-passes
returns-else-quote-eq34-clause-passes c = single_passes c.args.quote _ c.requires c.if-quote-eq34.false c.take_run-else-quote-eq34.ensures.passes

pub returns-else-quote-eq34-clause-ends : goal.returns-else-quote-eq34-clause-ends
returns-else-quote-eq34-clause-ends c = single_ends c.args.quote _ c.requires c.if-quote-eq34.false c.take_run-else-quote-eq34.ensures.ends
