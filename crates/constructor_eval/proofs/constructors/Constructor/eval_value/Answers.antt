use Rattle.std.proofs.Common.{ℕ, ap, sym, ◌∙◌, arith, length, ◌<◌, ◌≤◌, List}
use Rattle.std.proofs.lemmas.Result.{err_from_is_err_and}
use Rattle.expr_meaning.specs.Outcomes.Outcome.{Ends}
use Rattle.eval_steps.specs.Sizes.{part_nodes}
use Rattle.eval_steps.proofs.Follow.{gathers_first_map, gathers_step, gathers_exit, gathers_end}
use Rattle.eval_steps.proofs.Forms.{within}
use Rattle.constructor_eval.proofs.constructors.Constructor.eval_value.Goals as goal

pub eval_part_text-requires-clause-within : goal.eval_part_text-requires-clause-within
eval_part_text-requires-clause-within g c =
    let w = within part_nodes c.args.parts.now c.loop-part.part-index c.part-item.result _
    c.loop-part-test.true c.part-item.is in
    omega (arith, w)

pub loop-part-init : goal.loop-part-init
loop-part-init g c =
    gathers_first_map _ _ _ _ _ c.new-value.ensures

pub loop-part-preserved : goal.loop-part-preserved
loop-part-preserved g c =
    let lt : c.loop-part.part-index < length c.args.parts.now = omega arith in
    gathers_step _ _ _ _ _ _ _ _ _ _ _ c.loop-part.invariant lt c.part-item.is
    c.in_ok-text.ensures c.in_ok-push_text.ensures.ok

pub returns-in_err-text : goal.returns-in_err-text
returns-in_err-text g c =
    let q = err_from_is_err_and c.from_residual.result c.from_residual.ensures.1 in
    let lt : c.loop-part.part-index < length c.args.parts.now = omega arith in
    rw (q.1, q.2) (gathers_exit _ _ _ _ _ _ _ _ _ c.loop-part.invariant lt c.part-item.is
    c.in_err-text.ensures)

pub returns : goal.returns
returns g c =
    let le : length c.args.parts.now ≤ c.loop-part.part-index = omega arith in
    gathers_end _ _ _ _ _ _ c.loop-part.invariant le ∙ ap
    (λ (v : List ℕ). Ends v c.loop-part.next) (sym c.in_ok-finish.ensures)
