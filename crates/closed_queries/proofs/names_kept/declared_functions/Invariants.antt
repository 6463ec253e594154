use Rattle.std.proofs.Common.{◌≡◌, [], drop}
use Rattle.closed_queries.specs.Closed.{with_functions}
use Rattle.closed_queries.proofs.names_kept.declared_functions.Given as goal

abbrev pub invariant-loop-function : goal.invariant-loop-function
invariant-loop-function l = with_functions l.declared (drop l.function-index l.functions) ≡ with_functions [] l.functions
