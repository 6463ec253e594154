use Rattle.std.proofs.Common.{◌≡◌, ◌++◌, length}
use Rattle.sheet_parts.specs.Outputs.{space_rules}
use Rattle.sheet_parts.proofs.outputs.space_rules.Given as goal

abbrev pub invariant-loop-test : goal.invariant-loop-test
invariant-loop-test l = l.made ++ space_rules l.strip l.left.items ≡ space_rules l.strip l.fn.tests

abbrev pub decreases-loop-test : goal.decreases-loop-test
decreases-loop-test l = length l.left.items
