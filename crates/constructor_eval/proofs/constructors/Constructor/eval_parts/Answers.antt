use Rattle.std.proofs.Common.{arith, length, ◌<◌, ◌≤◌}
use Rattle.std.proofs.lemmas.Result.{err_from_is_err_and}
use Rattle.eval_steps.specs.Sizes.{part_nodes}
use Rattle.eval_steps.proofs.Follow.{gathers_first_map, gathers_step, gathers_exit, gathers_end}
use Rattle.eval_steps.proofs.Forms.{within}
use Rattle.constructor_eval.proofs.constructors.Constructor.eval_parts.Goals as goal

pub eval_part-requires-clause-within : goal.eval_part-requires-clause-within
eval_part-requires-clause-within g c =
    let w = within part_nodes c.args.parts.now c.loop-part.part-index c.part-item.result _
    c.loop-part-test.true c.part-item.is in
    omega (arith, w)

pub loop-part-init : goal.loop-part-init
loop-part-init g c =
    gathers_first_map _ _ _ _ _ c.clear.ensures

pub loop-part-preserved : goal.loop-part-preserved
loop-part-preserved g c =
    let lt : c.loop-part.part-index < length c.args.parts.now = omega arith in
    gathers_step _ _ _ _ _ _ _ _ _ _ _ c.loop-part.invariant lt c.part-item.is
    c.in_ok-eval_part.ensures c.in_ok-join.ensures

pub returns-in_err-eval_part : goal.returns-in_err-eval_part
returns-in_err-eval_part g c =
    let q = err_from_is_err_and c.from_residual.result c.from_residual.ensures.1 in
    let lt : c.loop-part.part-index < length c.args.parts.now = omega arith in
    rw (q.1, q.2) (gathers_exit _ _ _ _ _ _ _ _ _ c.loop-part.invariant lt c.part-item.is
    c.in_err-eval_part.ensures)

pub returns : goal.returns
returns g c =
    let le : length c.args.parts.now ≤ c.loop-part.part-index = omega arith in
    gathers_end _ _ _ _ _ _ c.loop-part.invariant le
