use Rattle.std.proofs.Common.{◌≡◌, drop}
use Rattle.global_order.specs.GraphOrders.Behind.{all_below}
use Rattle.sheet_closure.proofs.numbers.are_modes.Given as goal

abbrev pub invariant-loop-number : goal.invariant-loop-number
invariant-loop-number l =
    all_below l.modes (drop l.number-index l.numbers) ≡ all_below l.modes l.numbers
