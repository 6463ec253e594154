use Rattle.std.proofs.Common.{◌≡◌, ◌+◌, ◌*◌, ◌++◌, drop, length}
use Rattle.xt_tree.specs.Forest.{forest_size}
use Rattle.xt_tree.specs.TreeView.{forest_of, tree_size}
use Rattle.doc_writer.specs.Written.{written_forest}
use Rattle.doc_writer.proofs.writers.Writer.+write.Given as goal

abbrev pub invariant-write_trees-loop-tree : goal.invariant-write_trees-loop-tree
invariant-write_trees-loop-tree l = record {
  out : l.self.out ++ written_forest l.self.heads.scope (forest_of (drop l.tree-index l.trees)) ≡ l.initial.self.out ++ written_forest l.initial.self.heads.scope (forest_of l.trees);
  scope : l.self.heads.scope ≡ l.initial.self.heads.scope;
}

abbrev pub decreases-write_trees : goal.decreases-write_trees
decreases-write_trees l = 4 * forest_size (forest_of l.trees.now) + 2

abbrev pub decreases-write_node : goal.decreases-write_node
decreases-write_node l = 4 * tree_size l.tree.now + 1

abbrev pub decreases-write_element : goal.decreases-write_element
decreases-write_element l = 4 * (1 + length l.attributes.now + forest_size (forest_of l.kids.now))

abbrev pub decreases-write_rest : goal.decreases-write_rest
decreases-write_rest l = 4 * forest_size (forest_of l.kids.now) + 3
