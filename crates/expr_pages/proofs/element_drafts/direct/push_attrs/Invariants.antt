use Rattle.std.proofs.Common.{◌≡◌, ◌≤◌, length, drop, map}
use Rattle.expr_raws.specs.ElementRaws.Direct.{attrs_tokens}
use Rattle.expr_drafts.specs.ExprPlaces.Forms.{attr_form}
use Rattle.expr_pages.proofs.element_drafts.direct.push_attrs.Given as goal

abbrev pub invariant-loop-left : goal.invariant-loop-left
invariant-loop-left l = record {
  within : l.left ≤ length l.attrs;
  same : l.draft ≡ attrs_tokens (map (attr_form l.prefixes) (drop l.left l.attrs)) l.initial.draft;
}

abbrev pub decreases-loop-left : goal.decreases-loop-left
decreases-loop-left l = l.left
