use Rattle.std.proofs.Common.{◌≡◌, ◌++◌, drop, filter}
use Rattle.operator_values.specs.NodeSets.{is_kept}
use Rattle.operator_values.proofs.node_sets.chosen.Given as goal

abbrev pub invariant-loop-item : goal.invariant-loop-item
invariant-loop-item l =
    l.kept ++ filter (is_kept l.among l.nodes) (drop l.item-index l.items)
    ≡ filter (is_kept l.among l.nodes) l.items
