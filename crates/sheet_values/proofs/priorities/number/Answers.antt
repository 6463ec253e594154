use Rattle.std.proofs.Common.{arith}
use Rattle.sheet_values.proofs.NumberLemmas.{bounded}
use Rattle.sheet_values.proofs.priorities.number.Goals as goal

pub overflow_mul-made : goal.overflow_mul-made
overflow_mul-made c =
    let h = bounded c.loop-left.made c.loop-left.left.now c.loop-left.invariant.small in
    omega (arith, h)

pub overflow_add-made : goal.overflow_add-made
overflow_add-made c =
    let h = bounded c.loop-left.made c.loop-left.left.now c.loop-left.invariant.small in
    omega (arith, h, c.digit.ensures.small)
