use Rattle.std.proofs.Common.{◌≡◌, drop}
use Rattle.std.specs.List.{list_all}
use Rattle.closed_queries.specs.Closed.{value_keeps_names}
use Rattle.closed_queries.proofs.names_kept.values_keep_names.Given as goal

abbrev pub invariant-loop-variable : goal.invariant-loop-variable
invariant-loop-variable l = list_all (value_keeps_names l.functions l.scope) (drop l.variable-index l.variables) ≡ list_all (value_keeps_names l.functions l.scope) l.variables
