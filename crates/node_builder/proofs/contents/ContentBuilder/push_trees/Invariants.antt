use Rattle.node_builder.specs.Building.{built, with_tree, with_trees}
use Rattle.node_builder.proofs.Passes.{Passes}
use Rattle.node_builder.proofs.contents.ContentBuilder.push_trees.Given as goal

abbrev pub invariant-loop-tree : goal.invariant-loop-tree
invariant-loop-tree l = Passes (with_tree l.side l.holder) l.trees (built l.self) (with_trees l.side l.holder (built l.initial.self) l.trees) l.tree-index
