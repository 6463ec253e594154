use Rattle.std.proofs.Common.{◌≡◌, drop}
use Rattle.expr_control.specs.Bindings.{where_in}
use Rattle.expr_control.proofs.flwors.where_in.Given as goal

abbrev pub invariant-loop-part : goal.invariant-loop-part
invariant-loop-part l = where_in (drop l.part-index l.parts) ≡ where_in l.parts
