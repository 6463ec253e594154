use Rattle.std.proofs.Common.{◌≡◌, drop}
use Rattle.sheet_table.specs.Attributes.{attribute}
use Rattle.sheet_table.proofs.attributes.attribute.Given as goal

abbrev pub invariant-loop-attribute : goal.invariant-loop-attribute
invariant-loop-attribute l = attribute l.attributes l.local ≡ attribute (drop l.attribute-index l.attributes) l.local
