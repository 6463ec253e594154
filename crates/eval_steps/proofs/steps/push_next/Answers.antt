use Rattle.std.proofs.lemmas.Result.{err_from_is_err_and}
use Rattle.eval_steps.proofs.Follow.{fault_first}
use Rattle.eval_steps.proofs.steps.push_next.Goals as goal

pub returns-in_ok-push_taken-in-Some : goal.returns-in_ok-push_taken-in-Some
returns-in_ok-push_taken-in-Some c =
    λ k. let b = c.in_ok-push_taken-in-Some.ensures k in (
      c.in-Some.item,
      b.0,
      rw c.in-Some.is at c.in_ok-late_next.ensures,
      b.1,
      b.2,
    )

pub returns-in_err-push_taken-in-Some : goal.returns-in_err-push_taken-in-Some
returns-in_err-push_taken-in-Some c =
    λ k. let q = err_from_is_err_and c.from_residual-in_err-push_taken-in-Some.result
    c.from_residual-in_err-push_taken-in-Some.ensures.1 in
    let taken = rw c.in-Some.is at c.in_ok-late_next.ensures in
    rw (q.1, q.2, taken) (fault_first _ _ _ (c.in_err-push_taken-in-Some.ensures k))
