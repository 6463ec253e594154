use Rattle.std.proofs.Common.{◌≡◌, drop}
use Rattle.query_resolve.specs.QueryPrologs.Prefixes.{function_default}
use Rattle.query_resolve.proofs.query_prologs.prefixes.function_default.Given as goal

abbrev pub invariant-loop-setter : goal.invariant-loop-setter
invariant-loop-setter l =
    function_default (drop l.setter-index l.setters) ≡ function_default l.setters
