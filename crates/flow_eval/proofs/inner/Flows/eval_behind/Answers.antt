use Rattle.std.proofs.lemmas.Result.{err_from_is_err_and}
use Rattle.eval_scopes.specs.Scopes.{bindings}
use Rattle.flow_eval.proofs.Tuples.{tuple_within}
use Rattle.flow_eval.proofs.inner.Flows.eval_behind.Goals as goal

pub returns-in_err-eval_into : goal.returns-in_err-eval_into
returns-in_err-eval_into g c =
    let q = err_from_is_err_and c.from_residual.result c.from_residual.ensures.1 in
    rw (
      q.1,
      q.2,
      ← tuple_within (bindings c.args.env.now.locals.now) c.args.bound.now,
    ) c.in_err-eval_into.ensures

pub returns : goal.returns
returns g c =
    rw (← tuple_within (bindings c.args.env.now.locals.now) c.args.bound.now)
    c.in_ok-eval_into.ensures
