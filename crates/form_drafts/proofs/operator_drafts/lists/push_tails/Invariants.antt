use Rattle.std.proofs.Common.{◌≡◌, ◌≤◌, length, drop, map}
use Rattle.expr_raws.specs.ControlRaws.Operators.{tails}
use Rattle.expr_raws.specs.Raws.{form_of}
use Rattle.form_drafts.proofs.operator_drafts.lists.push_tails.Given as goal

abbrev pub invariant-loop-left : goal.invariant-loop-left
invariant-loop-left l = record {
  some : 1 ≤ l.left;
  within : l.left ≤ length l.items;
  same : l.draft ≡ tails l.level l.key (map (form_of l.prefixes) (drop l.left l.items)) l.initial.draft;
}

abbrev pub decreases-loop-left : goal.decreases-loop-left
decreases-loop-left l = l.left
