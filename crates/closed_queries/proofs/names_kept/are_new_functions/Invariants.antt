use Rattle.std.proofs.Common.{◌≡◌, [], drop}
use Rattle.closed_queries.specs.Closed.{are_new_functions}
use Rattle.closed_queries.proofs.names_kept.are_new_functions.Given as goal

abbrev pub invariant-loop-function : goal.invariant-loop-function
invariant-loop-function l = are_new_functions l.declared (drop l.function-index l.functions) ≡ are_new_functions [] l.functions
