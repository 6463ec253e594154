use Rattle.std.proofs.Common.{◌≡◌, drop}
use Rattle.expr_primaries.specs.ExprElements.Direct.{content_in}
use Rattle.expr_primaries.proofs.expr_elements.direct.content_in.Given as goal

abbrev pub invariant-loop-part : goal.invariant-loop-part
invariant-loop-part l = content_in (drop l.part-index l.parts) ≡ content_in l.parts
