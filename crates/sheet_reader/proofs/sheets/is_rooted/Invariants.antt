use Rattle.std.proofs.Common.{◌≡◌, drop, false}
use Rattle.xt_tree.specs.TreeView.{forest_of}
use Rattle.sheet_meaning.specs.First.{is_rooted}
use Rattle.sheet_reader.proofs.sheets.is_rooted.Given as goal

abbrev pub invariant-loop-tree : goal.invariant-loop-tree
invariant-loop-tree l = is_rooted l.seen (forest_of (drop l.tree-index l.kids)) ≡ is_rooted false (forest_of l.kids)
