use Rattle.std.proofs.Common.{◌≡◌, drop}
use Rattle.std.specs.List.{list_all}
use Rattle.operator_values.specs.Nodes.{is_node}
use Rattle.operator_values.proofs.node_sets.are_nodes.Given as goal

abbrev pub invariant-loop-item : goal.invariant-loop-item
invariant-loop-item l = list_all is_node (drop l.item-index l.items) ≡ list_all is_node l.items
