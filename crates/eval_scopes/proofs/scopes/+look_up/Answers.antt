use Rattle.eval_scopes.proofs.ScopeLemmas.{none_outermost}
use Rattle.eval_scopes.proofs.scopes.+look_up.Goals as goal

pub returns-in-Outermost : goal.returns-in-Outermost
returns-in-Outermost t c = none_outermost c.args.scope.now c.args.name.now c.in-Outermost.is
