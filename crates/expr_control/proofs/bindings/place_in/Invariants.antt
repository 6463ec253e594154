use Rattle.std.proofs.Common.{◌≡◌, drop}
use Rattle.expr_control.specs.Bindings.{place_in}
use Rattle.expr_control.proofs.bindings.place_in.Given as goal

abbrev pub invariant-loop-part : goal.invariant-loop-part
invariant-loop-part l = place_in (drop l.part-index l.parts) ≡ place_in l.parts
