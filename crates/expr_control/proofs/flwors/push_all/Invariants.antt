use Rattle.std.proofs.Common.{◌≡◌, ◌++◌, drop}
use Rattle.expr_control.proofs.flwors.push_all.Given as goal

abbrev pub invariant-loop-clause : goal.invariant-loop-clause
invariant-loop-clause l = l.more.items ++ drop l.clause-index l.all ≡ l.fn.clauses.items ++ l.all
