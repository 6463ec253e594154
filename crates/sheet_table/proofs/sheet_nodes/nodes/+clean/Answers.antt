use Rattle.std.proofs.Common.{arith, ap, length}
use Rattle.xt_tree.specs.Forest.{forest_size}
use Rattle.xt_tree.specs.TreeView.{tree_size}
use Rattle.xt_tree.proofs.TreeLemmas.{size_within}
use Rattle.sheet_table.proofs.SheetNodes.Elements.{elements_within}
use Rattle.sheet_table.proofs.sheet_nodes.nodes.+clean.Goals as goal

pub clean-clean_element-requires : goal.clean-clean_element-requires
clean-clean_element-requires t c =
    let within = size_within c.args.trees.now c.loop-tree.tree-index c.tree-item.result c.loop-tree-test.true c.tree-item.is in
    let whole = ap tree_size c.in-Elem.is in
    let kids = ap forest_size c.as_slice.ensures.forest in (
      omega (arith, c.decreases, within, whole, kids),
      elements_within c.args.trees.now c.loop-tree.tree-index c.tree-item.result c.in-Elem.name c.in-Elem.attributes c.in-Elem.kids c.as_slice.result.now c.loop-tree.next c.args.from (length c.args.declared.now)
          c.loop-tree-test.true c.tree-item.is c.in-Elem.is c.as_slice.ensures.forest c.loop-tree.invariant.next c.requires,
    )
