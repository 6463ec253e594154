use Rattle.std.proofs.Common.{◌≡◌, ◌++◌, drop}
use Rattle.expr_rules.specs.Rules.{attr_names}
use Rattle.expr_rules.proofs.whole.attr_names.Given as goal

abbrev pub invariant-loop-part : goal.invariant-loop-part
invariant-loop-part l = l.names.items ++ attr_names (drop l.part-index l.parts) ≡ attr_names l.parts
