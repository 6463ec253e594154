use Rattle.std.proofs.Common.{◌≡◌, drop}
use Rattle.query_resolve.specs.QueryPrologs.Prefixes.{element_default}
use Rattle.query_resolve.proofs.query_prologs.prefixes.element_default.Given as goal

abbrev pub invariant-loop-setter : goal.invariant-loop-setter
invariant-loop-setter l =
    element_default (drop l.setter-index l.setters) ≡ element_default l.setters
