use Rattle.doc_writer.proofs.RunLemmas.{nothing_left}
use Rattle.doc_writer.proofs.escapes.push_escaped.Goals as goal

pub returns : goal.returns
returns g c = nothing_left g.E.Escape.written _ _ _ _ c.is_empty.ensures c.loop-left-test.false c.loop-left.invariant.same
