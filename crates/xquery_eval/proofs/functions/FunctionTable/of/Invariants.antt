use Rattle.std.proofs.Common.{◌≤◌, length}
use Rattle.xquery_eval.proofs.TableLemmas.{IsTableFrom}
use Rattle.xquery_eval.proofs.functions.FunctionTable.of.Given as goal

abbrev pub invariant-loop-left : goal.invariant-loop-left
invariant-loop-left l = record {
  within : l.left ≤ length l.functions;
  table : IsTableFrom l.functions l.places l.left;
}

abbrev pub decreases-loop-left : goal.decreases-loop-left
decreases-loop-left l = l.left
