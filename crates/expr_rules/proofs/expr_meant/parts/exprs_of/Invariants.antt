use Rattle.std.proofs.Common.{◌≡◌, ◌++◌, drop}
use Rattle.expr_rules.specs.ExprMeant.Parts.{exprs_of}
use Rattle.expr_rules.proofs.expr_meant.parts.exprs_of.Given as goal

abbrev pub invariant-loop-part : goal.invariant-loop-part
invariant-loop-part l = l.all.items ++ exprs_of (drop l.part-index l.parts) ≡ exprs_of l.parts
