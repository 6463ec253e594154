use Rattle.std.proofs.Common.{◌≡◌, ◌++◌, length}
use Rattle.query_options.specs.Spaces.{pairs_broken, pairs_meant}
use Rattle.query_options.proofs.rules.rules_of.Given as goal

abbrev pub invariant-loop-left : goal.invariant-loop-left
invariant-loop-left l = record {
  broken : pairs_broken l.bound l.left ≡ pairs_broken l.bound l.words;
  meant : l.made ++ pairs_meant l.bound l.left ≡ pairs_meant l.bound l.words;
}

abbrev pub decreases-loop-left : goal.decreases-loop-left
decreases-loop-left l = length l.left
