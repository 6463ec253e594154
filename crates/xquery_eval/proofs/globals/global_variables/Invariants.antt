use Rattle.xquery_eval.specs.Runs.{run_of}
use Rattle.xquery_eval.proofs.GlobalLemmas.{BoundSoFar}
use Rattle.xquery_eval.proofs.globals.global_variables.Given as goal

abbrev pub invariant-loop-variable : goal.invariant-loop-variable
invariant-loop-variable l =
    BoundSoFar (run_of l.run) l.document l.left l.variable-items l.initial.next l.globals
    l.variable-index l.next
