use Rattle.std.proofs.Common.{◌≡◌, ◌≤◌, length, drop, map}
use Rattle.expr_raws.specs.PathRaws.Forms.{single, all_said}
use Rattle.expr_raws.specs.Raws.{form_of}
use Rattle.form_drafts.proofs.operator_drafts.lists.push_items.Given as goal

abbrev pub invariant-loop-left : goal.invariant-loop-left
invariant-loop-left l = record {
  within : l.left ≤ length l.items;
  same : l.draft ≡ all_said single (map (form_of l.prefixes) (drop l.left l.items)) l.initial.draft;
}

abbrev pub decreases-loop-left : goal.decreases-loop-left
decreases-loop-left l = l.left
