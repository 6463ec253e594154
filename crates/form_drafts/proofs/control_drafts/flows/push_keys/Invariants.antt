use Rattle.std.proofs.Common.{◌≡◌, ◌≤◌, length, drop, map}
use Rattle.expr_raws.specs.ControlRaws.Bindings.{keys_tokens}
use Rattle.expr_drafts.specs.ExprPlaces.Forms.{order_form}
use Rattle.form_drafts.proofs.control_drafts.flows.push_keys.Given as goal

abbrev pub invariant-loop-left : goal.invariant-loop-left
invariant-loop-left l = record {
  within : l.left ≤ length l.orders;
  same : l.draft ≡ keys_tokens (map (order_form l.prefixes) (drop l.left l.orders)) l.initial.draft;
}

abbrev pub decreases-loop-left : goal.decreases-loop-left
decreases-loop-left l = l.left
