use Rattle.std.proofs.Common.{map}
use Rattle.std.proofs.lemmas.Result.{err_from_is_err_and}
use Rattle.expr_meaning.specs.Meaning.{outcome}
use Rattle.eval_scopes.specs.Scopes.{env_of, program_of}
use Rattle.eval_steps.proofs.Forms.{step_fault, step_kept_fault, step_made}
use Rattle.path_eval.proofs.Steps.{step_means}
use Rattle.path_eval.proofs.forms.ItemForm.eval_step.Goals as goal

pub returns-in_err-items : goal.returns-in_err-items
returns-in_err-items g c =
    let p = program_of c.args.self.now.form.fixed.now (g.W.Calling.calls c.args.self.now.form.within.now)
    (g.W.Calling.keys c.args.self.now.form.within.now) in
    let q = err_from_is_err_and c.from_residual-in_err-items.result
    c.from_residual-in_err-items.ensures.1 in
    rw (q.1, q.2) (step_fault c.args.axis c.args.test.now (map (outcome p) c.args.tests.now)
    (env_of c.args.env.now) c.args.next.now _ (c.in_err-items.ensures _))

pub returns-in_err-kept : goal.returns-in_err-kept
returns-in_err-kept g c =
    let p = program_of c.args.self.now.form.fixed.now (g.W.Calling.calls c.args.self.now.form.within.now)
    (g.W.Calling.keys c.args.self.now.form.within.now) in
    let q = err_from_is_err_and c.from_residual-in_err-kept.result
    c.from_residual-in_err-kept.ensures.1 in
    rw (q.1, q.2) (step_kept_fault c.args.axis c.args.test.now (map (outcome p) c.args.tests.now)
    (env_of c.args.env.now) c.args.next.now _ _ _ (c.in_ok-items.ensures _) (rw c.as_slice.ensures at c.in_err-kept.ensures))

pub returns : goal.returns
returns g c =
    let p = program_of c.args.self.now.form.fixed.now (g.W.Calling.calls c.args.self.now.form.within.now)
    (g.W.Calling.keys c.args.self.now.form.within.now) in
    rw (step_made c.args.axis c.args.test.now (map (outcome p) c.args.tests.now)
    (env_of c.args.env.now) c.args.next.now _ _ _ _ (c.in_ok-items.ensures _)
    (rw c.as_slice.ensures at c.in_ok-kept.ensures))
    (c.put-2.ensures _ _ (c.ordered_items.ensures _))

pub returns-then-branch : goal.returns-then-branch
returns-then-branch g c =
    let p = program_of c.args.self.now.form.fixed.now (g.W.Calling.calls c.args.self.now.form.within.now)
    (g.W.Calling.keys c.args.self.now.form.within.now) in
    c.put.ensures _ _ (rw (c.requires.form, step_means p c.args.axis c.args.test.now c.args.tests.now) at
    (c.late_walk_list.ensures p c.args.next.now))
