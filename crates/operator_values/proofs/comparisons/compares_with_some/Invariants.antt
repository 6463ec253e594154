use Rattle.std.proofs.Common.{◌≡◌, drop}
use Rattle.operator_values.specs.Comparisons.{compares_with_some}
use Rattle.operator_values.proofs.comparisons.compares_with_some.Given as goal

abbrev pub invariant-loop-other : goal.invariant-loop-other
invariant-loop-other l =
    compares_with_some l.op l.atom (drop l.other-index l.others)
    ≡ compares_with_some l.op l.atom l.others
