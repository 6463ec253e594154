use Rattle.std.proofs.Common.{◌≡◌, drop}
use Rattle.xt_tree.specs.TreeView.{forest_of}
use Rattle.sheet_meaning.specs.First.{are_templates}
use Rattle.sheet_reader.proofs.sheets.are_templates.Given as goal

abbrev pub invariant-loop-tree : goal.invariant-loop-tree
invariant-loop-tree l = are_templates (forest_of (drop l.tree-index l.kids)) ≡ are_templates (forest_of l.kids)
