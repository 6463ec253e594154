use Rattle.std.proofs.lemmas.Result.{err_from_is_err_and}
use Rattle.eval_steps.proofs.Follow.{fault_first}
use Rattle.flow_eval.proofs.inner.Flows.push_let.Goals as goal

pub returns-in_err-eval_into : goal.returns-in_err-eval_into
returns-in_err-eval_into g c =
    let q = err_from_is_err_and c.from_residual.result c.from_residual.ensures.1 in
    rw (q.1, q.2) (fault_first _ _ _ (rw c.get.ensures at c.in_err-eval_into.ensures))

pub returns : goal.returns
returns g c = rw (rw c.get.ensures at c.in_ok-eval_into.ensures) (c.push_value.ensures _)
