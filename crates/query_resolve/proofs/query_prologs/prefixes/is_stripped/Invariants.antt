use Rattle.std.proofs.Common.{◌≡◌, drop}
use Rattle.query_resolve.specs.QueryPrologs.Prefixes.{is_stripped}
use Rattle.query_resolve.proofs.query_prologs.prefixes.is_stripped.Given as goal

abbrev pub invariant-loop-setter : goal.invariant-loop-setter
invariant-loop-setter l = is_stripped (drop l.setter-index l.setters) ≡ is_stripped l.setters
