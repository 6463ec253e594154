use Rattle.std.proofs.Common.{◌≡◌, ◌++◌, drop}
use Rattle.expr_control.specs.Bindings.{clauses_in}
use Rattle.expr_control.proofs.flwors.clauses_in.Given as goal

abbrev pub invariant-loop-part : goal.invariant-loop-part
invariant-loop-part l = l.clauses.items ++ clauses_in (drop l.part-index l.parts) ≡ clauses_in l.parts
