use Rattle.std.proofs.Common.{◌≡◌, drop}
use Rattle.xt_tree.specs.TreeView.{forest_of}
use Rattle.module_loading.specs.ModuleReader.Links.{root_content}
use Rattle.module_loading.proofs.module_reader.links.root_content.Given as goal

abbrev pub invariant-loop-tree : goal.invariant-loop-tree
invariant-loop-tree l = root_content (forest_of (drop l.tree-index l.trees)) ≡ root_content (forest_of l.trees)
