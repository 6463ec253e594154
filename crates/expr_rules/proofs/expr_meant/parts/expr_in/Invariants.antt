use Rattle.std.proofs.Common.{◌≡◌, drop}
use Rattle.expr_rules.specs.ExprMeant.Parts.{expr_in}
use Rattle.expr_rules.proofs.expr_meant.parts.expr_in.Given as goal

abbrev pub invariant-loop-part : goal.invariant-loop-part
invariant-loop-part l = expr_in (drop l.part-index l.parts) ≡ expr_in l.parts
