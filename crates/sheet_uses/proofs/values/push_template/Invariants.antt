use Rattle.std.proofs.Common.{◌≡◌, drop, map}
use Rattle.sheet_uses.specs.Exprs.{all_in}
use Rattle.sheet_uses.specs.Values.{part_uses}
use Rattle.sheet_uses.proofs.values.push_template.Given as goal

abbrev pub invariant-loop-part : goal.invariant-loop-part
invariant-loop-part l =
    all_in (map part_uses (drop l.part-index l.template)) l.scope l.found
    ≡ all_in (map part_uses l.template) l.scope l.fn.found
