use Rattle.std.proofs.Common.{◌≡◌, ap, ◌∙◌, arith, length, ◌<◌, ◌≤◌, map, List}
use Rattle.std.proofs.lemmas.Result.{err_from_is_err_and}
use Rattle.eval_scopes.specs.Scopes.{env_of, program_of}
use Rattle.eval_steps.specs.Sizes.{attr_nodes, part_nodes}
use Rattle.eval_steps.proofs.Follow.{gathers_first_map, gathers_step, gathers_exit, gathers_end}
use Rattle.eval_steps.proofs.Forms.{within, attribute_made, attribute_fault, attr_count}
use Rattle.xt_syntax.specs.declared.exprs.Part.{Part}
use Rattle.xt_syntax.specs.declared.exprs.Clause.TheViews.{out-DirectAttr}
use Rattle.constructor_eval.proofs.constructors.Constructor.eval_attributes.Goals as goal
use Rattle.xt_names.specs.Lists.{total}

pub loop-attribute-init : goal.loop-attribute-init
loop-attribute-init g c =
    gathers_first_map _ _ _ _ _ c.clear.ensures

pub loop-attribute-preserved : goal.loop-attribute-preserved
loop-attribute-preserved g c =
    let p = program_of c.args.self.now.form.fixed.now (g.W.Calling.calls c.args.self.now.form.within.now)
    (g.W.Calling.keys c.args.self.now.form.within.now) in
    let lt : c.loop-attribute.attribute-index < length c.args.attributes.now = omega arith in
    gathers_step _ _ _ _ _ _ _ _ _ _ _ c.loop-attribute.invariant lt c.attribute-item.is
    (attribute_made p c.attribute-item.result (env_of c.args.env.now) c.loop-attribute.next _ _
    (rw (c.as_slice.ensures, c.get.ensures) at c.in_ok-text.ensures))
    c.in_ok-push_attribute.ensures

pub returns-in_err-text : goal.returns-in_err-text
returns-in_err-text g c =
    let p = program_of c.args.self.now.form.fixed.now (g.W.Calling.calls c.args.self.now.form.within.now)
    (g.W.Calling.keys c.args.self.now.form.within.now) in
    let q = err_from_is_err_and c.from_residual.result c.from_residual.ensures.1 in
    let lt : c.loop-attribute.attribute-index < length c.args.attributes.now = omega arith in
    rw (q.1, q.2) (gathers_exit _ _ _ _ _ _ _ _ _ c.loop-attribute.invariant lt
    c.attribute-item.is (attribute_fault p c.attribute-item.result (env_of c.args.env.now)
    c.loop-attribute.next _ (rw (c.as_slice.ensures, c.get.ensures) at c.in_err-text.ensures)))

pub returns : goal.returns
returns g c =
    let le : length c.args.attributes.now ≤ c.loop-attribute.attribute-index = omega arith in
    gathers_end _ _ _ _ _ _ c.loop-attribute.invariant le

pub eval_value-requires-clause-within : goal.eval_value-requires-clause-within
eval_value-requires-clause-within g c =
    let w = within attr_nodes c.args.attributes.now c.loop-attribute.attribute-index
    c.attribute-item.result _ c.loop-attribute-test.true c.attribute-item.is in
    let same : total (map part_nodes c.as_slice.result.now) ≡ total
    (map part_nodes (out-DirectAttr c.attribute-item.result).parts) = ap
    (λ (ps : List Part). total (map part_nodes ps)) (c.as_slice.ensures ∙ c.get.ensures) in
    omega (arith, w, attr_count c.attribute-item.result, same)
