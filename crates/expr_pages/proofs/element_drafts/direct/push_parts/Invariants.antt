use Rattle.std.proofs.Common.{◌≡◌, ◌≤◌, length, drop, map}
use Rattle.expr_raws.specs.ElementRaws.Direct.{parts_tokens}
use Rattle.expr_drafts.specs.ExprPlaces.Forms.{part_form}
use Rattle.expr_pages.proofs.element_drafts.direct.push_parts.Given as goal

abbrev pub invariant-loop-left : goal.invariant-loop-left
invariant-loop-left l = record {
  within : l.left ≤ length l.parts;
  same : l.draft ≡ parts_tokens l.value (map (part_form l.prefixes) (drop l.left l.parts)) l.initial.draft;
}

abbrev pub decreases-loop-left : goal.decreases-loop-left
decreases-loop-left l = l.left
