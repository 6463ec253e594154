use Rattle.std.proofs.Common.{◌≡◌, ◌++◌, drop}
use Rattle.query_resolve.specs.Queries.{functions_in}
use Rattle.query_resolve.proofs.parts.functions_in.Given as goal

abbrev pub invariant-loop-declaration : goal.invariant-loop-declaration
invariant-loop-declaration l =
    l.all ++ functions_in (drop l.declaration-index l.declarations) ≡ functions_in l.declarations
