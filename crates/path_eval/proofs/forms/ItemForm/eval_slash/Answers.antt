use Rattle.std.proofs.lemmas.Result.{err_from_is_err_and}
use Rattle.expr_meaning.specs.Meaning.{outcome}
use Rattle.eval_scopes.specs.Scopes.{env_of, program_of}
use Rattle.eval_steps.proofs.Places.{slash_fault, slash_answers}
use Rattle.path_eval.proofs.Steps.{slash_means}
use Rattle.path_eval.proofs.forms.ItemForm.eval_slash.Goals as goal

pub returns-in_err-items : goal.returns-in_err-items
returns-in_err-items g c =
    let p = program_of c.args.self.now.form.fixed.now (g.W.Calling.calls c.args.self.now.form.within.now)
    (g.W.Calling.keys c.args.self.now.form.within.now) in
    let q = err_from_is_err_and c.from_residual-in_err-items.result
    c.from_residual-in_err-items.ensures.1 in
    rw (q.1, q.2) (slash_fault (outcome p c.args.a.now) (outcome p c.args.b.now)
    (env_of c.args.env.now) c.args.next.now _ _ c.in_ok-nodes.ensures _
    (rw c.as_slice.ensures at c.in_err-items.ensures))

pub returns : goal.returns
returns g c =
    let p = program_of c.args.self.now.form.fixed.now (g.W.Calling.calls c.args.self.now.form.within.now)
    (g.W.Calling.keys c.args.self.now.form.within.now) in
    c.put-2.ensures _ _ (slash_answers (outcome p c.args.a.now) (outcome p c.args.b.now)
    (env_of c.args.env.now) c.args.next.now _ _ c.in_ok-nodes.ensures _ _ _ _
    (rw c.as_slice.ensures at c.in_ok-items.ensures) (c.path_items.ensures _))

pub returns-then-branch : goal.returns-then-branch
returns-then-branch g c =
    let p = program_of c.args.self.now.form.fixed.now (g.W.Calling.calls c.args.self.now.form.within.now)
    (g.W.Calling.keys c.args.self.now.form.within.now) in
    c.put.ensures _ _ (rw (c.requires.form, slash_means p c.args.a.now c.args.b.now) at
    (c.late_walk_list.ensures p c.args.next.now))
