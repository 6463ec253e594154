use Rattle.std.proofs.Common.{◌≡◌, map, take}
use Rattle.xdm_items.specs.declared.items.Item.TheVariants.{Node}
use Rattle.node_walks.proofs.collected.as_items.Given as goal

abbrev pub invariant-loop-node : goal.invariant-loop-node
invariant-loop-node l = l.items ≡ map Node (take l.node-index l.nodes)
