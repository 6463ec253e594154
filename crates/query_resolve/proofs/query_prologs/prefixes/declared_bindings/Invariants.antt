use Rattle.std.proofs.Common.{◌≡◌, ◌++◌, drop}
use Rattle.query_resolve.specs.QueryPrologs.Prefixes.{declared_bindings}
use Rattle.query_resolve.proofs.query_prologs.prefixes.declared_bindings.Given as goal

abbrev pub invariant-loop-setter : goal.invariant-loop-setter
invariant-loop-setter l =
    l.bound ++ declared_bindings (drop l.setter-index l.setters) ≡ declared_bindings l.setters
