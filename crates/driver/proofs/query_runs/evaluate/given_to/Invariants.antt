use Rattle.std.proofs.Common.{◌≡◌, map, take}
use Rattle.driver.specs.QueryRuns.Queries.{param_of}
use Rattle.driver.proofs.query_runs.evaluate.given_to.Given as goal

abbrev pub invariant-loop-parameter : goal.invariant-loop-parameter
invariant-loop-parameter l = l.given ≡ map param_of (take l.parameter-index l.parameters)
