use Rattle.std.proofs.Common.{◌≡◌, drop}
use Rattle.std.specs.List.{list_all}
use Rattle.closed_queries.specs.Closed.{body_keeps_names}
use Rattle.closed_queries.proofs.names_kept.bodies_keep_names.Given as goal

abbrev pub invariant-loop-function : goal.invariant-loop-function
invariant-loop-function l = list_all (body_keeps_names l.functions l.scope) (drop l.function-index l.all) ≡ list_all (body_keeps_names l.functions l.scope) l.all
