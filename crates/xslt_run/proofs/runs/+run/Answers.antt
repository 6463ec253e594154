use Rattle.std.proofs.Common.{◌<◌, length, ap, sym, arith}
use Rattle.std.proofs.lemmas.Result.{err_from_is_err_and}
use Rattle.xt_tree.specs.Forest.{forest_size}
use Rattle.xt_tree.specs.TreeView.{forest_of}
use Rattle.xt_tree.proofs.TreeLemmas.{size_within}
use Rattle.sheet_meaning.specs.Meaning.{entered}
use Rattle.xslt_run.specs.Content.{built}
use Rattle.xslt_run.specs.Table.{rule_for}
use Rattle.xslt_run.proofs.Follow.{runs_first_of, runs_step, runs_exit, constructed_each, entered_rule, literal_made, grows_along}
use Rattle.xslt_run.proofs.Measure.{weight_falls}
use Rattle.xslt_run.proofs.runs.+run.Goals as goal

pub apply-loop-node-preserved : goal.apply-loop-node-preserved
apply-loop-node-preserved t c =
    let lt : c.loop-node.node-index < length c.args.nodes.now = omega arith in
    runs_step _ _ _ _ _ _ _ _ c.loop-node.invariant lt c.node-item.is c.in_ok-enter.ensures

pub construct-loop-part-init : goal.construct-loop-part-init
construct-loop-part-init t c =
    let enter = entered (rule_for c.args.rules.now) c.args.depth in
    runs_first_of _ _ _ _ (constructed_each enter c.args.kids.now c.args.parts.now)

pub construct-instruct-requires : goal.construct-instruct-requires
construct-instruct-requires t c =
    let within = size_within c.args.parts.now c.loop-part.part-index c.part-item.result c.loop-part-test.true c.part-item.is in
    (omega (arith, c.decreases, within), tt)

pub construct-loop-part-preserved : goal.construct-loop-part-preserved
construct-loop-part-preserved t c =
    let lt : c.loop-part.part-index < length c.args.parts.now = omega arith in
    runs_step _ _ _ _ _ _ _ _ c.loop-part.invariant lt c.part-item.is c.in_ok-instruct.ensures

pub construct-returns-in_err-instruct : goal.construct-returns-in_err-instruct
construct-returns-in_err-instruct t c =
    let p = err_from_is_err_and c.from_residual.result c.from_residual.ensures.1 in
    let lt : c.loop-part.part-index < length c.args.parts.now = omega arith in
    rw (p.1, p.2) (runs_exit _ _ _ _ _ _ _ _ c.loop-part.invariant lt c.part-item.is c.in_err-instruct.ensures)

pub construct_element-returns : goal.construct_element-returns
construct_element-returns t c =
    let enter = entered (rule_for c.args.rules.now) c.args.depth in
    grows_along _ _ (built c.args.out.now) _ _ (literal_made (built c.new-content.result) enter c.args.kids.now c.args.name.now (forest_of c.args.inside.now) _ c.new-content.ensures c.in_ok-construct.ensures) c.close_element.ensures

pub enter-construct-requires : goal.enter-construct-requires
enter-construct-requires t c =
    let fewer = weight_falls c.args.rules.now c.args.depth c.args.node.now c.in-Some.content.now (sym c.in-Some.ensures) c.if-depth-eq0.false in
    let size = ap forest_size c.as_slice.ensures.forest in
    (omega (arith, c.decreases, fewer, size), tt)

pub enter-returns-in-Some : goal.enter-returns-in-Some
enter-returns-in-Some t c =
    rw (entered_rule (rule_for c.args.rules.now) c.args.depth c.args.node.now c.in-Some.content.now c.kids.result.now (forest_of c.as_slice.result.now) c.if-depth-eq0.false (sym c.in-Some.ensures) c.kids.ensures c.as_slice.ensures.forest) c.construct.ensures
