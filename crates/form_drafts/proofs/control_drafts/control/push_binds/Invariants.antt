use Rattle.std.proofs.Common.{◌≡◌, ◌≤◌, length, drop, map}
use Rattle.expr_raws.specs.ControlRaws.Bindings.{binds_tokens}
use Rattle.expr_drafts.specs.ExprPlaces.Forms.{bind_form}
use Rattle.form_drafts.proofs.control_drafts.control.push_binds.Given as goal

abbrev pub invariant-loop-left : goal.invariant-loop-left
invariant-loop-left l = record {
  within : l.left ≤ length l.binds;
  same : l.draft ≡ binds_tokens (map (bind_form l.prefixes) (drop l.left l.binds)) l.initial.draft;
}

abbrev pub decreases-loop-left : goal.decreases-loop-left
decreases-loop-left l = l.left
