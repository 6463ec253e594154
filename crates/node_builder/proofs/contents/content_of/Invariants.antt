use Rattle.node_builder.specs.Building.{built}
use Rattle.node_builder.proofs.Passes.{Goes}
use Rattle.node_builder.proofs.contents.content_of.Given as goal

abbrev pub invariant-loop-item : goal.invariant-loop-item
invariant-loop-item l = Goes l.side l.holder l.items l.item-items (built l.builder) l.item-index
