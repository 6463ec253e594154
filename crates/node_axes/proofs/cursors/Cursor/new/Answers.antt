use Rattle.std.proofs.Common.{◌≤◌, ap, ◌∙◌, arith}
use Rattle.std.specs.Vec.{vec_capacity}
use Rattle.xt_tree.specs.TreeView.{tree_depth}
use Rattle.node_axes.proofs.CursorLemmas.{steady_new, new_is, all_to_come}
use Rattle.node_axes.proofs.cursors.Cursor.new.Goals as goal

pub invariant_of-result : goal.invariant_of-result
invariant_of-result c =
    let a = ap tree_depth c.tree.ensures in
    let r : tree_depth c.args.node.now.tree ≤ vec_capacity c.in_ok-reserved.field-0 = omega (arith, a, c.in_ok-reserved.ensures.room) in
    steady_new c.args.axis c.args.node.now c.in_ok-copy.field-0 c.in_ok-reserved.field-0.items c.attribute_place.result (vec_capacity c.in_ok-reserved.field-0) c.kind-kind.result c.in_ok-copy.ensures
    c.kind-kind.ensures (c.in_ok-reserved.ensures.items ∙ c.path.ensures) c.attribute_place.ensures r

pub returns-clause-made : goal.returns-clause-made
returns-clause-made c = new_is c.args.axis c.args.test c.args.node.now c.in_ok-copy.field-0 c.in_ok-reserved.field-0.items c.attribute_place.result c.in_ok-copy.ensures

pub returns-clause-all : goal.returns-clause-all
returns-clause-all c = all_to_come c.args.axis c.args.test c.args.node.now c.in_ok-copy.field-0 c.in_ok-reserved.field-0.items c.attribute_place.result c.in_ok-copy.ensures
