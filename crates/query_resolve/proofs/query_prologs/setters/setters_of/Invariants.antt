use Rattle.std.proofs.Common.{◌≡◌, ◌++◌, drop, map}
use Rattle.query_resolve.specs.QueryPrologs.Setters.{setter_of}
use Rattle.query_resolve.proofs.query_prologs.setters.setters_of.Given as goal

abbrev pub invariant-loop-d : goal.invariant-loop-d
invariant-loop-d l =
    l.setters.items ++ map setter_of (drop l.d-index l.declared) ≡ map setter_of l.declared
