use Rattle.std.proofs.Common.{◌≡◌, ◌++◌, length}
use Rattle.query_resolve.specs.Declarations.{params_broken, params_meant}
use Rattle.query_resolve.proofs.declarations.params_of.Given as goal

abbrev pub invariant-loop-left : goal.invariant-loop-left
invariant-loop-left l = record {
  broken : params_broken l.s l.left ≡ params_broken l.s l.params;
  meant : l.made ++ params_meant l.s l.left ≡ params_meant l.s l.params;
}

abbrev pub decreases-loop-left : goal.decreases-loop-left
decreases-loop-left l = length l.left
