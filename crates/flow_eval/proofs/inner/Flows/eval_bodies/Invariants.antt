use Rattle.std.proofs.Common.{ℕ, map}
use Rattle.expr_meaning.specs.Outcomes.Outcome.{for_each}
use Rattle.expr_meaning.specs.Env.{bind_all}
use Rattle.expr_meaning.specs.Meaning.{outcome}
use Rattle.eval_scopes.specs.Scopes.{env_of}
use Rattle.flow_eval.specs.Rows.{tuple_at}
use Rattle.eval_steps.proofs.Follow.{Gathers}
use Rattle.flow_eval.proofs.inner.Flows.eval_bodies.Given as goal

abbrev pub invariant-loop-place : goal.invariant-loop-place
invariant-loop-place g l =
    let p = g.W.Within.program l.self.within.now in
    let f = λ (i : ℕ). outcome p l.body (bind_all (tuple_at l.rows.tuples.items i) (env_of l.env)) in
    Gathers f l.places
    (for_each (λ bound. outcome p l.body (bind_all bound (env_of l.env)))
    (map (tuple_at l.rows.tuples.items) l.places) l.fn.next) l.list l.place-index l.next
