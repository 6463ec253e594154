use Rattle.std.proofs.Common.{◌≡◌, ◌++◌, length}
use Rattle.query_options.specs.Options.{no_options}
use Rattle.query_resolve.specs.Late.{declarations_of, all_options, all_broken}
use Rattle.query_resolve.proofs.late.late_of.Given as goal

abbrev pub invariant-loop-left : goal.invariant-loop-left
invariant-loop-left l = record {
  broken : all_broken l.s l.late.options l.left ≡ all_broken l.s no_options l.declared;
  declarations : l.late.declarations ++ declarations_of l.s l.left ≡ declarations_of l.s l.declared;
  options : all_options l.s l.late.options l.left ≡ all_options l.s no_options l.declared;
}

abbrev pub decreases-loop-left : goal.decreases-loop-left
decreases-loop-left l = length l.left
