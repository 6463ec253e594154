use Rattle.query_pieces.proofs.NumberLemmas.{Counts}
use Rattle.query_pieces.proofs.references.value.Given as goal

abbrev pub invariant-loop-c : goal.invariant-loop-c
invariant-loop-c l = Counts l.base l.value l.yielded
