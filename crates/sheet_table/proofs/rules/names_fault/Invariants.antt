use Rattle.std.proofs.Common.{◌≡◌, drop}
use Rattle.expr_names.specs.Answers.{first}
use Rattle.sheet_table.specs.RowsOfCode.{row_as}
use Rattle.sheet_table.specs.Rules.{each, name_faults}
use Rattle.sheet_table.proofs.rules.names_fault.Given as goal

abbrev pub invariant-loop-attribute : goal.invariant-loop-attribute
invariant-loop-attribute l = first (each (name_faults (row_as l.row)) l.attributes) ≡ first (each (name_faults (row_as l.row)) (drop l.attribute-index l.attributes))
