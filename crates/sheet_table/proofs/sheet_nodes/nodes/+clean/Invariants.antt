use Rattle.std.proofs.Common.{◌≡◌, ◌+◌, ◌*◌, ◌++◌, drop, []}
use Rattle.xt_tree.specs.Forest.{forest_size}
use Rattle.xt_tree.specs.TreeView.{forest_of}
use Rattle.sheet_table.specs.SheetNodes.Cleaned.{cleaned, elements_in}
use Rattle.sheet_table.specs.SheetNodes.Pending.{pending_text}
use Rattle.sheet_table.proofs.sheet_nodes.nodes.+clean.Given as goal

abbrev pub invariant-clean-loop-tree : goal.invariant-clean-loop-tree
invariant-clean-loop-tree l = record {
  nodes : cleaned l.keep (drop l.fn.from l.declared) [] (forest_of l.trees)
      ≡ l.out ++ cleaned l.keep (drop l.next l.declared) (pending_text l.pending) (forest_of (drop l.tree-index l.trees));
  next : l.next + elements_in (forest_of (drop l.tree-index l.trees)) ≡ l.fn.from + elements_in (forest_of l.trees);
}

abbrev pub decreases-clean : goal.decreases-clean
decreases-clean l = 2 * forest_size (forest_of l.trees.now)

abbrev pub decreases-clean_element : goal.decreases-clean_element
decreases-clean_element l = 2 * forest_size (forest_of l.kids.now) + 1
