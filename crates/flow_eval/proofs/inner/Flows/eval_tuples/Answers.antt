use Rattle.std.proofs.Common.{ap, ◌∙◌, ◌++◌, List}
use Rattle.std.proofs.lemmas.Result.{err_from_is_err_and}
use Rattle.eval_scopes.specs.Scopes.{env_of}
use Rattle.order_group.specs.Rows.{Keyed}
use Rattle.expr_meaning.specs.Env.{Binding}
use Rattle.flow_eval.proofs.Keys.{flwor_fault, flwor_order_fault, flwor_ends}
use Rattle.flow_eval.proofs.inner.Flows.eval_tuples.Goals as goal

pub returns-in_err-eval_clauses : goal.returns-in_err-eval_clauses
returns-in_err-eval_clauses g c =
    let p = g.W.Within.program c.args.self.now.within.now in
    let q = err_from_is_err_and c.from_residual.result c.from_residual.ensures.1 in
    rw (q.1, q.2) (flwor_fault p c.args.self.now.whole.now (env_of c.args.env.now) c.args.next.now _
    (rw (c.as_slice-clauses.ensures, c.get.ensures, c.new-bound.ensures.items) at
    c.in_err-eval_clauses.ensures.rows))

pub returns-in_err-places : goal.returns-in_err-places
returns-in_err-places g c =
    let p = g.W.Within.program c.args.self.now.within.now in
    let q = err_from_is_err_and c.from_residual-in_err-places.result
    c.from_residual-in_err-places.ensures.1 in
    let made = rw (c.as_slice-clauses.ensures, c.get.ensures, c.new-bound.ensures.items) at
    c.in_ok-eval_clauses.ensures.rows in
    let same = made.2 ∙ ap (λ (r : List (Keyed (List Binding))). r ++ made.0)
    c.new-rows.ensures.none in
    rw (q.1, q.2) (flwor_order_fault p c.args.self.now.whole.now (env_of c.args.env.now) c.args.next.now _
    made.0 _ made.1 (rw (same, c.as_slice.ensures, c.get-2.ensures) at
    (c.in_err-places.ensures c.eval_clauses.new.next)))

pub returns : goal.returns
returns g c =
    let p = g.W.Within.program c.args.self.now.within.now in
    let made = rw (c.as_slice-clauses.ensures, c.get.ensures, c.new-bound.ensures.items) at
    c.in_ok-eval_clauses.ensures.rows in
    let same = made.2 ∙ ap (λ (r : List (Keyed (List Binding))). r ++ made.0)
    c.new-rows.ensures.none in
    c.put.ensures _ _ (flwor_ends p c.args.self.now.whole.now (env_of c.args.env.now)
    c.args.next.now _ _ made.0 _ _ _ made.1 (rw (same, c.as_slice.ensures, c.get-2.ensures) at
    (c.in_ok-places.ensures c.eval_clauses.new.next)) (rw (c.as_slice-2.ensures, c.get-3.ensures)
    at c.eval_bodies.ensures))
