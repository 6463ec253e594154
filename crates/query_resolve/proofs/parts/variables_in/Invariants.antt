use Rattle.std.proofs.Common.{◌≡◌, ◌++◌, drop}
use Rattle.query_resolve.specs.Queries.{variables_in}
use Rattle.query_resolve.proofs.parts.variables_in.Given as goal

abbrev pub invariant-loop-declaration : goal.invariant-loop-declaration
invariant-loop-declaration l =
    l.all ++ variables_in (drop l.declaration-index l.declarations) ≡ variables_in l.declarations
