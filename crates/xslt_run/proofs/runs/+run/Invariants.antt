use Rattle.std.proofs.Common.{◌+◌, ◌*◌}
use Rattle.xt_tree.specs.Forest.{forest_size}
use Rattle.xt_tree.specs.TreeView.{forest_of, tree_size}
use Rattle.sheet_meaning.specs.Meaning.{entered, applied, constructed}
use Rattle.xslt_run.specs.Content.{built, grown, instructed}
use Rattle.xslt_run.specs.Table.{rule_for}
use Rattle.xslt_run.proofs.Follow.{Runs}
use Rattle.xslt_run.proofs.Measure.{weight}
use Rattle.xslt_run.proofs.runs.+run.Given as goal

abbrev pub decreases-enter : goal.decreases-enter
decreases-enter l = 6 * weight l.rules.now l.depth 0 + 1

abbrev pub decreases-apply : goal.decreases-apply
decreases-apply l = 6 * weight l.rules.now l.depth 0 + 2

abbrev pub decreases-run_built_in : goal.decreases-run_built_in
decreases-run_built_in l = 6 * weight l.rules.now l.depth 0 + 3

abbrev pub decreases-instruct : goal.decreases-instruct
decreases-instruct l = 6 * weight l.rules.now l.depth (tree_size l.part.now) + 3

abbrev pub decreases-construct : goal.decreases-construct
decreases-construct l = 6 * weight l.rules.now l.depth (forest_size (forest_of l.parts.now)) + 4

abbrev pub decreases-construct_element : goal.decreases-construct_element
decreases-construct_element l = 6 * weight l.rules.now l.depth (forest_size (forest_of l.inside.now)) + 5

abbrev pub invariant-apply-loop-node : goal.invariant-apply-loop-node
invariant-apply-loop-node l =
    Runs (entered (rule_for l.rules) l.depth) l.nodes (built l.out) (grown (built l.fn.out) (applied (entered (rule_for l.rules) l.depth) l.nodes)) l.node-index

abbrev pub invariant-construct-loop-part : goal.invariant-construct-loop-part
invariant-construct-loop-part l =
    Runs (instructed (entered (rule_for l.rules) l.depth) l.kids) l.parts (built l.out) (grown (built l.fn.out) (constructed (entered (rule_for l.rules) l.depth) l.kids (forest_of l.parts))) l.part-index
