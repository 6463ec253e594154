use Rattle.std.proofs.Common.{◌≡◌, ◌+◌, ◌*◌, ◌++◌, drop}
use Rattle.xt_tree.specs.Forest.{forest_size}
use Rattle.xt_tree.specs.TreeView.{forest_of, trees, tree_size}
use Rattle.doc_set.specs.WhiteSpace.Stripped.{stripped_forest}
use Rattle.doc_set.proofs.white_space.stripping.Stripper.+strip.Given as goal

abbrev pub invariant-push_kids-loop-tree : goal.invariant-push_kids-loop-tree
invariant-push_kids-loop-tree l =
    l.out ++ trees (stripped_forest l.self.rules.now l.kept l.drops (forest_of (drop l.tree-index l.kids)))
    ≡ l.initial.out ++ trees (stripped_forest l.self.rules.now l.kept l.drops (forest_of l.kids))

abbrev pub decreases-strip_inside : goal.decreases-strip_inside
decreases-strip_inside l = 5 * tree_size l.tree.now

abbrev pub decreases-strip_element : goal.decreases-strip_element
decreases-strip_element l = 5 * forest_size l.kids.now + 4

abbrev pub decreases-strip_kids : goal.decreases-strip_kids
decreases-strip_kids l = 5 * forest_size l.kids.now + 3

abbrev pub decreases-push_kid : goal.decreases-push_kid
decreases-push_kid l = 5 * tree_size l.tree.now + 1

abbrev pub decreases-push_kids : goal.decreases-push_kids
decreases-push_kids l = 5 * forest_size (forest_of l.kids.now) + 2
