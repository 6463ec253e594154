use Rattle.expr_tokens.proofs.NumberLemmas.{Counts}
use Rattle.expr_tokens.proofs.literals.number.Given as goal

abbrev pub invariant-loop-c : goal.invariant-loop-c
invariant-loop-c l = Counts l.value l.yielded
