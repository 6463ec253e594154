use Rattle.std.proofs.Common.{◌≡◌, ◌++◌, drop}
use Rattle.xt_tree.specs.TreeView.{forest_of}
use Rattle.module_loading.specs.ModuleReader.Links.{links_in}
use Rattle.module_loading.proofs.module_reader.links.links_in.Given as goal

abbrev pub invariant-loop-tree : goal.invariant-loop-tree
invariant-loop-tree l =
    l.links ++ links_in l.before (forest_of (drop l.tree-index l.trees)) ≡ links_in 0 (forest_of l.trees)
