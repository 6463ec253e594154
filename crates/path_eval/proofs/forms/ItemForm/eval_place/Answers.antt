use Rattle.std.proofs.Common.{rules, ℤ, subst}
use Rattle.expr_meaning.specs.Outcomes.Outcome.{and_then}
use Rattle.expr_meaning.specs.Meaning.{outcome}
use Rattle.node_walks.specs.Moves.{given}
use Rattle.eval_scopes.specs.Scopes.{env_of, program_of}
use Rattle.std.specs.Prelude.{FitsSigned}
use Rattle.std.specs.Int.{w64}
use Rattle.std.proofs.lemmas.Int.{to_z-of_z}
use Rattle.expr_meaning.specs.Paths.{kept}
use Rattle.eval_scopes.specs.Answers.{Answers}
use Rattle.eval_steps.specs.EvalLates.Late.{literal}
use Rattle.path_eval.proofs.forms.ItemForm.eval_place.Goals as goal

pub returns-then-branch : goal.returns-then-branch
returns-then-branch g c =
    let p = program_of c.args.self.now.form.fixed.now (g.W.Calling.calls c.args.self.now.form.within.now)
    (g.W.Calling.keys c.args.self.now.form.within.now) in
    let fits : FitsSigned w64 c.args.place = search rules in
    subst
    (λ (n : ℤ). Answers c.late_walk_place.result c.args.next.now
    (and_then (outcome p c.args.of.now (env_of c.args.env.now) c.args.next.now)
    (kept (literal n) (env_of c.args.env.now)))) (to_z-of_z w64 c.args.place fits)
    (c.late_walk_place.ensures p c.args.next.now)

pub returns : goal.returns
returns g c =
    let fits : FitsSigned w64 c.args.place = search rules in
    rw c.in_ok-items.ensures (subst
    (λ (n : ℤ). Answers c.late_item.result c.eval_late.new.next
    (kept (literal n) (env_of c.args.env.now) (given c.in_ok-items.items.moves)
    c.eval_late.new.next)) (to_z-of_z w64 c.args.place fits)
    (c.late_item.ensures (env_of c.args.env.now) c.eval_late.new.next))
