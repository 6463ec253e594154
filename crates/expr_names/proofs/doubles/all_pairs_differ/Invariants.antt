use Rattle.std.proofs.Common.{◌≡◌, length}
use Rattle.expr_names.specs.Doubles.{names_differ}
use Rattle.expr_names.proofs.doubles.all_pairs_differ.Given as goal

abbrev pub invariant-loop-left : goal.invariant-loop-left
invariant-loop-left l = names_differ l.left ≡ names_differ l.names

abbrev pub decreases-loop-left : goal.decreases-loop-left
decreases-loop-left l = length l.left
