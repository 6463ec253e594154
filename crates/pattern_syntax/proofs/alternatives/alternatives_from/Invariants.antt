use Rattle.pattern_syntax.proofs.LoopLemmas.{Joined}
use Rattle.pattern_syntax.proofs.alternatives.alternatives_from.Given as goal

abbrev pub invariant-loop-raw : goal.invariant-loop-raw
invariant-loop-raw l = Joined l.s l.raws l.made l.raw-index
