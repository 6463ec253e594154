use Rattle.std.proofs.Common.{◌≡◌, drop}
use Rattle.std.specs.List.{list_all}
use Rattle.closed_queries.specs.Closed.{is_good_param}
use Rattle.closed_queries.proofs.parts.are_good_params.Given as goal

abbrev pub invariant-loop-param : goal.invariant-loop-param
invariant-loop-param l = list_all is_good_param (drop l.param-index l.all) ≡ list_all is_good_param l.all
