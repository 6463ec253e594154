use Rattle.std.proofs.Common.{◌≤◌, ◌<◌, length, refl, arith}
use Rattle.expr_raws.specs.ControlRaws.Operators.{arms_tokens}
use Rattle.expr_drafts.specs.ExprPlaces.Forms.{arm_form, arm_tokens}
use Rattle.expr_drafts.proofs.Turns.{start, turn, finish}
use Rattle.form_drafts.proofs.control_drafts.control.push_arms.Goals as goal

pub loop-left-init : goal.loop-left-init
loop-left-init c = record {
  within = omega arith;
  same = start (arm_form c.args.prefixes.now) (arms_tokens) c.args.arms.now c.args.draft.now refl;
}

pub loop-left-preserved : goal.loop-left-preserved
loop-left-preserved c =
    let test = c.loop-left-test.true in
    let positive : 0 < c.loop-left.left = omega arith in
    let within : c.loop-left.left ≤ length c.args.arms.now = c.loop-left.invariant.within in
    record {
      within = omega arith;
      same = turn (arm_form c.args.prefixes.now) (arms_tokens) (arm_tokens)
          (λ b bs ts. refl) c.args.arms.now
          c.loop-left.left c.index-arms-left.result c.index-arms-left.result _ _ _
          positive within c.index-arms-left.is c.loop-left.invariant.same
          c.in_ok-push_arm.ensures;
    }

pub returns : goal.returns
returns c = finish (arm_form c.args.prefixes.now) (arms_tokens) c.args.arms.now c.loop-left.left _ _
    c.loop-left-test.false c.loop-left.invariant.same
