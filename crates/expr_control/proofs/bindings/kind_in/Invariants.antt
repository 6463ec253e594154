use Rattle.std.proofs.Common.{◌≡◌, drop}
use Rattle.expr_control.specs.Bindings.{kind_in}
use Rattle.expr_control.proofs.bindings.kind_in.Given as goal

abbrev pub invariant-loop-part : goal.invariant-loop-part
invariant-loop-part l = kind_in (drop l.part-index l.parts) ≡ kind_in l.parts
