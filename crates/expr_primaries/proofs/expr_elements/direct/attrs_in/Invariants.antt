use Rattle.std.proofs.Common.{◌≡◌, ◌++◌, drop}
use Rattle.expr_primaries.specs.ExprElements.Direct.{attrs_in}
use Rattle.expr_primaries.proofs.expr_elements.direct.attrs_in.Given as goal

abbrev pub invariant-loop-part : goal.invariant-loop-part
invariant-loop-part l = l.attrs.items ++ attrs_in (drop l.part-index l.parts) ≡ attrs_in l.parts
