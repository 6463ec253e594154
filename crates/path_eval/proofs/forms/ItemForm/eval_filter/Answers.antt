use Rattle.std.proofs.Common.{rules, ℤ, subst}
use Rattle.expr_meaning.specs.Outcomes.Outcome.{and_then}
use Rattle.expr_meaning.specs.Meaning.{outcome}
use Rattle.eval_scopes.specs.Scopes.{env_of, program_of}
use Rattle.std.specs.Prelude.{FitsSigned}
use Rattle.eval_steps.proofs.CallLemmas.{filter_at}
use Rattle.std.specs.Int.{w64}
use Rattle.std.proofs.lemmas.Int.{to_z-of_z}
use Rattle.expr_meaning.specs.Paths.{kept}
use Rattle.eval_scopes.specs.Answers.{Answers}
use Rattle.eval_steps.specs.EvalLates.Late.{literal}
use Rattle.path_eval.proofs.forms.ItemForm.eval_filter.Goals as goal

pub returns-in-Some : goal.returns-in-Some
returns-in-Some g c =
    let p = program_of c.args.self.now.form.fixed.now (g.W.Calling.calls c.args.self.now.form.within.now)
    (g.W.Calling.keys c.args.self.now.form.within.now) in
    let fits : FitsSigned w64 c.in-Some.place = search rules in
    rw (filter_at p (outcome p c.args.of.now) c.args.tests.now c.in-Some.place
    (env_of c.args.env.now) c.args.next.now (c.literal_place.ensures c.in-Some.place c.in-Some.is))
    (c.put.ensures _ _ (subst
    (λ (n : ℤ). Answers c.eval_place.result c.eval_place.new.next
    (and_then (outcome p c.args.of.now (env_of c.args.env.now) c.args.next.now)
    (kept (literal n) (env_of c.args.env.now)))) (to_z-of_z w64 c.in-Some.place fits)
    c.eval_place.ensures))
