use Rattle.std.proofs.Common.{◌≡◌, drop}
use Rattle.std.specs.List.{list_all}
use Rattle.closed_queries.specs.Closed.{is_good_function}
use Rattle.closed_queries.proofs.parts.are_good_functions.Given as goal

abbrev pub invariant-loop-function : goal.invariant-loop-function
invariant-loop-function l = list_all is_good_function (drop l.function-index l.all) ≡ list_all is_good_function l.all
