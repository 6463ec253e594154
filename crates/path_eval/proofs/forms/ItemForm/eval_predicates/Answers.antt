use Rattle.std.proofs.Common.{arith, refl, length, ◌<◌, ◌≤◌}
use Rattle.std.proofs.lemmas.List.{drop_all}
use Rattle.std.proofs.lemmas.Result.{err_from_is_err_and}
use Rattle.eval_scopes.specs.Scopes.{env_of, program_of}
use Rattle.eval_steps.specs.Sizes.{nodes}
use Rattle.eval_steps.proofs.Forms.{within, test_fault, test_kept}
use Rattle.path_eval.proofs.forms.ItemForm.eval_predicates.Goals as goal

pub loop-test-preserved : goal.loop-test-preserved
loop-test-preserved g c =
    let p = program_of c.args.self.now.form.fixed.now (g.W.Calling.calls c.args.self.now.form.within.now)
    (g.W.Calling.keys c.args.self.now.form.within.now) in
    let lt : c.loop-test.test-index < length c.args.tests.now = omega arith in
    test_kept p c.args.tests.now c.loop-test.test-index c.test-item.result _
    (env_of c.args.env.now) c.loop-test.kept c.loop-test.next _ lt c.test-item.is
    c.loop-test.invariant _ _ (rw c.as_slice.ensures at c.in_ok-kept.ensures)

pub returns-in_err-kept : goal.returns-in_err-kept
returns-in_err-kept g c =
    let p = program_of c.args.self.now.form.fixed.now (g.W.Calling.calls c.args.self.now.form.within.now)
    (g.W.Calling.keys c.args.self.now.form.within.now) in
    let q = err_from_is_err_and c.from_residual.result c.from_residual.ensures.1 in
    let lt : c.loop-test.test-index < length c.args.tests.now = omega arith in
    rw (q.1, q.2) (test_fault p c.args.tests.now c.loop-test.test-index c.test-item.result _
    (env_of c.args.env.now) c.loop-test.kept c.loop-test.next _ lt c.test-item.is
    c.loop-test.invariant _ (rw c.as_slice.ensures at c.in_err-kept.ensures))

pub returns : goal.returns
returns g c =
    let le : length c.args.tests.now ≤ c.loop-test.test-index = omega arith in
    rw (← c.loop-test.invariant, drop_all _ c.args.tests.now le) refl

pub eval_predicate-requires-clause-within : goal.eval_predicate-requires-clause-within
eval_predicate-requires-clause-within g c =
    let w = within nodes c.args.tests.now c.loop-test.test-index c.test-item.result _
    c.loop-test-test.true c.test-item.is in
    omega (arith, w)
