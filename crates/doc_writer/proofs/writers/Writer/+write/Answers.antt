use Rattle.std.proofs.Common.{arith}
use Rattle.xt_tree.proofs.TreeLemmas.{size_within}
use Rattle.doc_writer.proofs.writers.Writer.+write.Goals as goal

pub write_trees-write_node-requires : goal.write_trees-write_node-requires
write_trees-write_node-requires t c =
    (omega (arith, c.decreases, size_within c.args.trees.now c.loop-tree.tree-index c.tree-item.result c.loop-tree-test.true c.tree-item.is), tt)
