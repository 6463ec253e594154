use Rattle.std.proofs.Common.{◌≡◌, drop}
use Rattle.expr_control.specs.Bindings.{is_stable}
use Rattle.expr_control.proofs.orders.is_stable.Given as goal

abbrev pub invariant-loop-part : goal.invariant-loop-part
invariant-loop-part l = is_stable (drop l.part-index l.parts) ≡ is_stable l.parts
