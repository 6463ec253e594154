use Rattle.doc_writer.proofs.UsedLemmas.{known_same}
use Rattle.doc_writer.proofs.used.UsedPrefixes.has.Goals as goal

pub invariant_of-self : goal.invariant_of-self
invariant_of-self c = known_same _ _ _ _ c.loop-self.invariant.known c.in_err-put_prefix.ensures.err
