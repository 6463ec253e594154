use Rattle.xquery_eval.proofs.ParamLemmas.{BoundBefore}
use Rattle.xquery_eval.proofs.params.bound_params.Given as goal

abbrev pub invariant-loop-place : goal.invariant-loop-place
invariant-loop-place l = BoundBefore l.params l.lists l.bound.items l.place
