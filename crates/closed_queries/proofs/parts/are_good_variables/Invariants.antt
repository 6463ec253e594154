use Rattle.std.proofs.Common.{◌≡◌, drop}
use Rattle.std.specs.List.{list_all}
use Rattle.closed_queries.specs.Closed.{is_good_variable}
use Rattle.closed_queries.proofs.parts.are_good_variables.Given as goal

abbrev pub invariant-loop-variable : goal.invariant-loop-variable
invariant-loop-variable l = list_all is_good_variable (drop l.variable-index l.all) ≡ list_all is_good_variable l.all
