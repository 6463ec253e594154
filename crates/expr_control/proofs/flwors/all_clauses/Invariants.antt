use Rattle.std.proofs.Common.{◌≡◌, ◌++◌, drop}
use Rattle.expr_control.specs.Bindings.{all_clauses}
use Rattle.expr_control.proofs.flwors.all_clauses.Given as goal

abbrev pub invariant-loop-part : goal.invariant-loop-part
invariant-loop-part l = l.clauses.items ++ all_clauses (drop l.part-index l.parts) ≡ all_clauses l.parts
