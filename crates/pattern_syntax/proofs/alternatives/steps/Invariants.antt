use Rattle.pattern_syntax.proofs.LoopLemmas.{Stepped}
use Rattle.pattern_syntax.proofs.alternatives.steps.Given as goal

abbrev pub invariant-loop-raw : goal.invariant-loop-raw
invariant-loop-raw l = Stepped l.s l.initial.deep l.deep l.raws l.made l.raw-index
