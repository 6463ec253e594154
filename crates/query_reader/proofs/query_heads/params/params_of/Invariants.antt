use Rattle.query_reader.proofs.QueryHeads.SliceLemmas.{Filled}
use Rattle.query_reader.proofs.query_heads.params.params_of.Given as goal

abbrev pub invariant-loop-i : goal.invariant-loop-i
invariant-loop-i l = Filled l.tokens l.from l.i l.params
