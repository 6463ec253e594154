use Rattle.std.proofs.Common.{◌≡◌, take}
use Rattle.eval_scopes.proofs.scopes.copy_variables.Given as goal

abbrev pub invariant-loop-variable : goal.invariant-loop-variable
invariant-loop-variable l = l.copy.items ≡ take l.variable-index l.variables
