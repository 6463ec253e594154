use Rattle.std.proofs.Common.{◌≡◌, drop, IsTrue}
use Rattle.expr_names.specs.Answers.{first}
use Rattle.sheet_table.specs.ChoicesOfCode.{choices_as, are_ascii_choices}
use Rattle.sheet_table.specs.Rules.{each, choice_faults}
use Rattle.sheet_table.proofs.rules.choices_fault.Given as goal

abbrev pub invariant-loop-choice : goal.invariant-loop-choice
invariant-loop-choice l = record {
  same : first (each (choice_faults l.attributes) (choices_as l.choices)) ≡ first (each (choice_faults l.attributes) (choices_as (drop l.choice-index l.choices)));
  ascii : IsTrue (are_ascii_choices (drop l.choice-index l.choices));
}
