use Rattle.std.proofs.Common.{◌≡◌, drop, map}
use Rattle.sheet_uses.specs.Exprs.{all_in}
use Rattle.sheet_uses.specs.Values.{attribute_uses}
use Rattle.sheet_uses.proofs.values.push_attributes.Given as goal

abbrev pub invariant-loop-attribute : goal.invariant-loop-attribute
invariant-loop-attribute l =
    all_in (map attribute_uses (drop l.attribute-index l.attributes)) l.scope l.found
    ≡ all_in (map attribute_uses l.attributes) l.scope l.fn.found
