use Rattle.node_builder.proofs.AttributeLemmas.{distinct_all}
use Rattle.node_builder.proofs.attributes.distinct.Goals as goal

pub returns-then-differ : goal.returns-then-differ
returns-then-differ c = distinct_all c.args.side c.args.attributes _ _ c.in_ok-differ.ensures c.if-differ.true c.as_slice.ensures
