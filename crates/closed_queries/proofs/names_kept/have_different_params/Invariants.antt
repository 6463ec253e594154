use Rattle.std.proofs.Common.{◌≡◌, drop}
use Rattle.closed_queries.specs.Closed.{have_different_params}
use Rattle.closed_queries.proofs.names_kept.have_different_params.Given as goal

abbrev pub invariant-loop-function : goal.invariant-loop-function
invariant-loop-function l = have_different_params (drop l.function-index l.functions) ≡ have_different_params l.functions
