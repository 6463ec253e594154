use Rattle.std.proofs.Common.{◌≡◌, map, drop, IsTrue}
use Rattle.expr_names.specs.Answers.{first}
use Rattle.sheet_table.specs.Texts.{are_ascii}
use Rattle.sheet_table.specs.Rules.{each, missing_faults}
use Rattle.sheet_table.proofs.rules.missing_fault.Given as goal

abbrev pub invariant-loop-name : goal.invariant-loop-name
invariant-loop-name l = record {
  same : first (each (missing_faults l.attributes) (map (λ n. n.now) l.names)) ≡ first (each (missing_faults l.attributes) (map (λ n. n.now) (drop l.name-index l.names)));
  ascii : IsTrue (are_ascii (map (λ n. n.now) (drop l.name-index l.names)));
}
