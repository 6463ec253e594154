use Rattle.std.proofs.Common.{◌∙◌, ◌+ℤ◌, ◌-ℤ◌, ◌*ℤ◌}
use Rattle.xt_atoms.specs.Arithmetic.{computed}
use Rattle.xt_atoms.proofs.ArithmeticLemmas.{ranged_from}
use Rattle.xt_atoms.proofs.arithmetic.computed.Goals as goal

pub returns-in-Add : goal.returns-in-Add
unfolding computed
returns-in-Add c = rw c.in-Add.is (c.ok_or.ensures.value ∙ ranged_from ◌+ℤ◌ _ _ _ c.ranges.a c.ranges.b c.checked_add.ensures)

pub returns-in-Sub : goal.returns-in-Sub
unfolding computed
returns-in-Sub c = rw c.in-Sub.is (c.ok_or-in-Sub.ensures.value ∙ ranged_from ◌-ℤ◌ _ _ _ c.ranges.a c.ranges.b c.checked_sub.ensures)

pub returns-in-Mul : goal.returns-in-Mul
unfolding computed
returns-in-Mul c = rw c.in-Mul.is (c.ok_or-in-Mul.ensures.value ∙ ranged_from ◌*ℤ◌ _ _ _ c.ranges.a c.ranges.b c.checked_mul.ensures)
