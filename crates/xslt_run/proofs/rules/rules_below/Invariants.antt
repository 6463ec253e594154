use Rattle.std.proofs.Common.{◌≡◌, drop}
use Rattle.xt_tree.specs.TreeView.{forest_of}
use Rattle.sheet_meaning.specs.Rules.{root_content}
use Rattle.xslt_run.proofs.rules.rules_below.Given as goal

abbrev pub invariant-loop-tree : goal.invariant-loop-tree
invariant-loop-tree l = root_content (forest_of (drop l.tree-index l.trees)) ≡ root_content (forest_of l.trees)
