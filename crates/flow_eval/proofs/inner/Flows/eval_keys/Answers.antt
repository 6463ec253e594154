use Rattle.std.proofs.Common.{◌≡◌, ap, arith, length, ◌<◌, ◌≤◌}
use Rattle.std.proofs.lemmas.Result.{err_from_is_err_and}
use Rattle.eval_scopes.specs.Scopes.{env_of}
use Rattle.eval_steps.specs.Sizes.{nodes, order_nodes}
use Rattle.eval_steps.proofs.Follow.{gathers_first_map, gathers_step, gathers_exit, gathers_end}
use Rattle.eval_steps.proofs.Forms.{within, key_fault, key_value_fault, key_made, order_count}
use Rattle.expr_meaning.specs.Env.{bind_all}
use Rattle.flow_eval.specs.Rows.{tuple_of}
use Rattle.xt_syntax.specs.declared.exprs.Clause.TheViews.{out-Order}
use Rattle.flow_eval.proofs.inner.Flows.eval_keys.Goals as goal

pub loop-order-init : goal.loop-order-init
loop-order-init g c =
    gathers_first_map _ _ _ _ _ c.new-cells.ensures

pub loop-order-preserved : goal.loop-order-preserved
loop-order-preserved g c =
    let p = g.W.Within.program c.args.self.now.within.now in
    let lt : c.loop-order.order-index < length c.args.orders.now = omega arith in
    gathers_step _ _ _ _ _ _ _ _ _ _ _ c.loop-order.invariant lt c.order-item.is
    (key_made p c.order-item.result (bind_all (tuple_of c.args.bound.now)
    (env_of c.args.env.now)) c.loop-order.next _ _ _ (rw c.get.ensures at c.in_ok-list.ensures)
    (c.in_ok-cell.ensures _)) c.in_ok-push_cell.ensures

pub returns-in_err-list : goal.returns-in_err-list
returns-in_err-list g c =
    let p = g.W.Within.program c.args.self.now.within.now in
    let q = err_from_is_err_and c.from_residual.result c.from_residual.ensures.1 in
    let lt : c.loop-order.order-index < length c.args.orders.now = omega arith in
    rw (q.1, q.2) (gathers_exit _ _ _ _ _ _ _ _ _ c.loop-order.invariant lt c.order-item.is
    (key_fault p c.order-item.result (bind_all (tuple_of c.args.bound.now)
    (env_of c.args.env.now)) c.loop-order.next _ (rw c.get.ensures at c.in_err-list.ensures)))

pub returns-in_err-cell : goal.returns-in_err-cell
returns-in_err-cell g c =
    let p = g.W.Within.program c.args.self.now.within.now in
    let q = err_from_is_err_and c.from_residual-in_err-cell.result
    c.from_residual-in_err-cell.ensures.1 in
    let lt : c.loop-order.order-index < length c.args.orders.now = omega arith in
    rw (q.1, q.2) (gathers_exit _ _ _ _ _ _ _ _ _ c.loop-order.invariant lt c.order-item.is
    (key_value_fault p c.order-item.result (bind_all (tuple_of c.args.bound.now)
    (env_of c.args.env.now)) c.loop-order.next _ _ _ (rw c.get.ensures at c.in_ok-list.ensures)
    (c.in_err-cell.ensures _)))

pub returns : goal.returns
returns g c =
    let le : length c.args.orders.now ≤ c.loop-order.order-index = omega arith in
    gathers_end _ _ _ _ _ _ c.loop-order.invariant le

pub eval_behind-requires-clause-within : goal.eval_behind-requires-clause-within
eval_behind-requires-clause-within g c =
    let w = within order_nodes c.args.orders.now c.loop-order.order-index c.order-item.result _
    c.loop-order-test.true c.order-item.is in
    let same : nodes c.get.result.now ≡ nodes (out-Order c.order-item.result).key = ap nodes
    c.get.ensures in
    omega (arith, w, order_count c.order-item.result, same)
