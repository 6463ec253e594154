use Rattle.std.proofs.Common.{◌≡◌, ◌≤◌, length, drop, map}
use Rattle.expr_raws.specs.PathRaws.Paths.{predicates}
use Rattle.expr_raws.specs.Raws.{form_of}
use Rattle.form_drafts.proofs.operator_drafts.paths.push_predicates.Given as goal

abbrev pub invariant-loop-left : goal.invariant-loop-left
invariant-loop-left l = record {
  within : l.left ≤ length l.tests;
  same : l.draft ≡ predicates (map (form_of l.prefixes) (drop l.left l.tests)) l.initial.draft;
}

abbrev pub decreases-loop-left : goal.decreases-loop-left
decreases-loop-left l = l.left
