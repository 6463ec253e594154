use Rattle.std.proofs.Common.{◌≡◌, take}
use Rattle.text_functions.specs.Joins.{joined}
use Rattle.text_functions.proofs.joins.joined.Given as goal

abbrev pub invariant-loop-i : goal.invariant-loop-i
invariant-loop-i l = l.made ≡ joined l.separator (take l.i l.items)
