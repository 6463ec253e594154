use Rattle.std.proofs.Common.{FitsSigned, w64, rules}
use Rattle.xt_atoms.proofs.ArithmeticLemmas.{zero_from, passed_nonzero, remainder_from, remainder_by_zero}
use Rattle.xt_atoms.proofs.arithmetic.remainder.Goals as goal

pub returns-then-is_zero : goal.returns-then-is_zero
returns-then-is_zero c = remainder_by_zero _ _ (zero_from _ _ _ c.ranges.b c.is_zero.ensures c.if-is_zero.true)

pub wrapping_rem-requires : goal.wrapping_rem-requires
wrapping_rem-requires c = passed_nonzero _ c.ranges.b (zero_from _ _ _ c.ranges.b c.is_zero.ensures c.if-is_zero.false)

pub returns : goal.returns
returns c =
    let fits : FitsSigned w64 c.wrapping_rem.result = search rules in
    remainder_from _ _ _ c.ranges.a c.ranges.b fits (zero_from _ _ _ c.ranges.b c.is_zero.ensures c.if-is_zero.false) c.wrapping_rem.ensures
