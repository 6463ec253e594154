use Rattle.std.proofs.Common.{◌≡◌, ◌≤◌, length, drop, map}
use Rattle.expr_raws.specs.ControlRaws.Operators.{arms_tokens}
use Rattle.expr_drafts.specs.ExprPlaces.Forms.{arm_form}
use Rattle.form_drafts.proofs.control_drafts.control.push_arms.Given as goal

abbrev pub invariant-loop-left : goal.invariant-loop-left
invariant-loop-left l = record {
  within : l.left ≤ length l.arms;
  same : l.draft ≡ arms_tokens (map (arm_form l.prefixes) (drop l.left l.arms)) l.initial.draft;
}

abbrev pub decreases-loop-left : goal.decreases-loop-left
decreases-loop-left l = l.left
