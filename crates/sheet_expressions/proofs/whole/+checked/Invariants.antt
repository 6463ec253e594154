use Rattle.std.proofs.Common.{◌≡◌, drop, map}
use Rattle.sheet_expressions.specs.Checked.{all_some, checked}
use Rattle.sheet_expressions.proofs.PartLemmas.{behind}
use Rattle.sheet_expressions.proofs.whole.+checked.Given as goal

abbrev pub invariant-checked_parts-loop-raw : goal.invariant-checked_parts-loop-raw
invariant-checked_parts-loop-raw l =
    all_some (map (checked l.prefixes l.in_group) l.raws)
    ≡ behind l.made.items (all_some (map (checked l.prefixes l.in_group) (drop l.raw-index l.raws)))
