use Rattle.std.proofs.Common.{◌≡◌, ◌++◌, length}
use Rattle.sheet_parts.specs.Keys.{keys_of}
use Rattle.sheet_parts.proofs.keys.keys_of.Given as goal

abbrev pub invariant-loop-pattern : goal.invariant-loop-pattern
invariant-loop-pattern g l = l.made ++ keys_of l.name l.key l.left.items ≡ keys_of l.name l.key l.fn.patterns

abbrev pub decreases-loop-pattern : goal.decreases-loop-pattern
decreases-loop-pattern g l = length l.left.items
