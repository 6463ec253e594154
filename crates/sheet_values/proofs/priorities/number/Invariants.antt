use Rattle.std.proofs.Common.{◌≡◌, length, true}
use Rattle.sheet_values.specs.Priorities.{number, are_digits}
use Rattle.sheet_values.proofs.NumberLemmas.{IsSmall}
use Rattle.sheet_values.proofs.priorities.number.Given as goal

abbrev pub invariant-loop-left : goal.invariant-loop-left
invariant-loop-left l = record {
  value : number l.made l.left ≡ number 0 l.digits;
  digits : are_digits l.left ≡ true;
  small : IsSmall l.made l.left;
}

abbrev pub decreases-loop-left : goal.decreases-loop-left
decreases-loop-left l = length l.left
