use Rattle.std.proofs.Common.{◌≡◌, drop}
use Rattle.xt_tree.specs.TreeView.{forest_of}
use Rattle.sheet_meaning.specs.First.{is_blank}
use Rattle.sheet_reader.proofs.sheets.is_blank.Given as goal

abbrev pub invariant-loop-tree : goal.invariant-loop-tree
invariant-loop-tree l = is_blank (forest_of (drop l.tree-index l.kids)) ≡ is_blank (forest_of l.kids)
