use Rattle.std.proofs.Common.{◌≡◌, drop}
use Rattle.expr_names.specs.Answers.{first}
use Rattle.sheet_table.specs.Rules.{literal_attribute_faults}
use Rattle.sheet_table.proofs.rules.literals_fault.Given as goal

abbrev pub invariant-loop-attribute : goal.invariant-loop-attribute
invariant-loop-attribute l = first (literal_attribute_faults l.attributes) ≡ first (literal_attribute_faults (drop l.attribute-index l.attributes))
