use Rattle.std.proofs.Common.{◌≡◌, drop}
use Rattle.sheet_table.specs.Attributes.{has}
use Rattle.sheet_table.proofs.attributes.has.Given as goal

abbrev pub invariant-loop-attribute : goal.invariant-loop-attribute
invariant-loop-attribute l = has l.attributes l.local ≡ has (drop l.attribute-index l.attributes) l.local
