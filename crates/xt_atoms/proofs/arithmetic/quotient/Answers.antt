use Rattle.std.proofs.Common.{◌∙◌}
use Rattle.xt_atoms.proofs.ArithmeticLemmas.{zero_from, quotient_from, quotient_by_zero}
use Rattle.xt_atoms.proofs.arithmetic.quotient.Goals as goal

pub returns-then-is_zero : goal.returns-then-is_zero
returns-then-is_zero c = quotient_by_zero _ _ (zero_from _ _ _ c.ranges.b c.is_zero.ensures c.if-is_zero.true)

pub returns : goal.returns
returns c = c.ok_or.ensures.value ∙ quotient_from _ _ _ c.ranges.a c.ranges.b (zero_from _ _ _ c.ranges.b c.is_zero.ensures c.if-is_zero.false) c.checked_div.ensures
