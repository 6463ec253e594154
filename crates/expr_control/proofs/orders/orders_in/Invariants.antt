use Rattle.std.proofs.Common.{◌≡◌, ◌++◌, drop}
use Rattle.expr_control.specs.Bindings.{orders_in}
use Rattle.expr_control.proofs.orders.orders_in.Given as goal

abbrev pub invariant-loop-part : goal.invariant-loop-part
invariant-loop-part l = l.orders.items ++ orders_in (drop l.part-index l.parts) ≡ orders_in l.parts
