use Rattle.std.proofs.Common.{map}
use Rattle.xt_syntax.specs.declared.exprs.Order.{Order}
use Rattle.expr_meaning.specs.Env.{bind_all}
use Rattle.eval_scopes.specs.Scopes.{env_of}
use Rattle.eval_steps.specs.Parts.{order_outcome}
use Rattle.flow_eval.specs.Rows.{tuple_of}
use Rattle.eval_steps.specs.Steps.{key_of_tuple, keys_of}
use Rattle.eval_steps.proofs.Follow.{Gathers}
use Rattle.flow_eval.proofs.inner.Flows.eval_keys.Given as goal

abbrev pub invariant-loop-order : goal.invariant-loop-order
invariant-loop-order g l =
    let p = g.W.Within.program l.self.within.now in
    let env = bind_all (tuple_of l.bound) (env_of l.env) in
    Gathers (λ (o : Order). key_of_tuple env (order_outcome p o)) l.orders
    (keys_of (map (order_outcome p) l.orders) env l.fn.next) l.cells l.order-index l.next
