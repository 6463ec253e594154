use Rattle.std.proofs.Common.{◌≡◌, drop}
use Rattle.expr_control.specs.Bindings.{all_orders}
use Rattle.expr_control.proofs.orders.all_orders.Given as goal

abbrev pub invariant-loop-part : goal.invariant-loop-part
invariant-loop-part l = all_orders (drop l.part-index l.parts) ≡ all_orders l.parts
