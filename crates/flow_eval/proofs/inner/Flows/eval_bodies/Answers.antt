use Rattle.std.proofs.Common.{arith, refl, length, ◌<◌, ◌≤◌}
use Rattle.std.proofs.lemmas.Result.{err_from_is_err_and}
use Rattle.eval_steps.proofs.Follow.{gathers_first_map, gathers_step, gathers_exit, gathers_end}
use Rattle.flow_eval.proofs.inner.Flows.eval_bodies.Goals as goal

pub loop-place-init : goal.loop-place-init
loop-place-init g c =
    gathers_first_map _ _ _ _ _ c.new-list.ensures

pub loop-place-preserved : goal.loop-place-preserved
loop-place-preserved g c =
    let p = g.W.Within.program c.args.self.now.within.now in
    let lt : c.loop-place.place-index < length c.args.places.now = omega arith in
    gathers_step _ _ _ _ _ _ _ _ _ _ _ c.loop-place.invariant lt refl
    (rw c.tuple.ensures at c.in_ok-more.ensures) c.in_ok-list.ensures

pub returns-in_err-more : goal.returns-in_err-more
returns-in_err-more g c =
    let p = g.W.Within.program c.args.self.now.within.now in
    let q = err_from_is_err_and c.from_residual.result c.from_residual.ensures.1 in
    let lt : c.loop-place.place-index < length c.args.places.now = omega arith in
    rw (q.1, q.2) (gathers_exit _ _ _ _ _ _ _ _ _ c.loop-place.invariant lt refl
    (rw c.tuple.ensures at c.in_err-more.ensures))

pub returns : goal.returns
returns g c =
    let le : length c.args.places.now ≤ c.loop-place.place-index = omega arith in
    gathers_end _ _ _ _ _ _ c.loop-place.invariant le
