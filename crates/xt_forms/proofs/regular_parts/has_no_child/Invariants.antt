use Rattle.std.proofs.Common.{◌≡◌, drop, map}
use Rattle.xt_forms.specs.Regular.{has_no_child, part_facts_of}
use Rattle.xt_forms.proofs.regular_parts.has_no_child.Given as goal

abbrev pub invariant-loop-part : goal.invariant-loop-part
invariant-loop-part l = has_no_child (map part_facts_of (drop l.part-index l.all)) ≡ has_no_child (map part_facts_of l.all)
