use Rattle.std.proofs.Common.{◌≡◌, ◌++◌, drop}
use Rattle.operator_values.specs.NodeSets.{places_of}
use Rattle.operator_values.proofs.node_sets.nodes_of.Given as goal

abbrev pub invariant-loop-item : goal.invariant-loop-item
invariant-loop-item l =
    l.nodes.items ++ places_of (drop l.item-index l.items) ≡ places_of l.items
