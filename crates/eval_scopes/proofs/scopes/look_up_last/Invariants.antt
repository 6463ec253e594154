use Rattle.std.proofs.Common.{◌≡◌, ◌≤◌, [], length, take}
use Rattle.expr_meaning.specs.Env.{look_up}
use Rattle.eval_scopes.specs.Scopes.{pushed_on}
use Rattle.eval_scopes.proofs.scopes.look_up_last.Given as goal

abbrev pub invariant-loop-left : goal.invariant-loop-left
invariant-loop-left l = record {
  within : l.left ≤ length l.variables;
  found : look_up (pushed_on [] (take l.left l.variables)) l.name
      ≡ look_up (pushed_on [] l.variables) l.name;
}

abbrev pub decreases-loop-left : goal.decreases-loop-left
decreases-loop-left l = l.left
