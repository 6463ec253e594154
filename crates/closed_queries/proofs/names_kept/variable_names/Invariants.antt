use Rattle.std.proofs.Common.{◌≡◌, ◌++◌, drop}
use Rattle.closed_queries.specs.Closed.{variable_names}
use Rattle.closed_queries.proofs.names_kept.variable_names.Given as goal

abbrev pub invariant-loop-variable : goal.invariant-loop-variable
invariant-loop-variable l = l.names ++ variable_names (drop l.variable-index l.variable-items) ≡ variable_names l.variable-items
