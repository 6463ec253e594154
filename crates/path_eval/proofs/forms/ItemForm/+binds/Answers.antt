use Rattle.std.proofs.Common.{ap, ◌∙◌, arith, refl, length, [], ◌∷◌, ◌-◌, ◌++◌, map, take, drop}
use Rattle.std.proofs.Common.{List}
use Rattle.std.proofs.lemmas.Result.{err_from_is_err_and}
use Rattle.expr_meaning.specs.Outcomes.Outcome.{Ends}
use Rattle.expr_meaning.specs.Meaning.{outcome}
use Rattle.xdm_items.specs.declared.items.Item.{Item}
use Rattle.node_walks.specs.Moves.{given}
use Rattle.eval_scopes.specs.Scopes.{binding_of, env_of, program_of}
use Rattle.eval_steps.proofs.Forms.{turn_value_fault, turn_rest_fault, turn_decided, turn_passed}
use Rattle.eval_steps.proofs.Forms.{same_truth, first_and_rest, first_bind}
use Rattle.std.specs.Prelude.{Bool}
use Rattle.expr_meaning.specs.Logic.{quantified}
use Rattle.eval_steps.specs.Parts.{bind_outcome}
use Rattle.path_eval.proofs.forms.ItemForm.+binds.Goals as goal

pub eval_items-returns-in_err-push_next : goal.eval_items-returns-in_err-push_next
eval_items-returns-in_err-push_next g t c =
    let p = program_of c.args.self.now.form.fixed.now (g.W.Calling.calls c.args.self.now.form.within.now)
    (g.W.Calling.keys c.args.self.now.form.within.now) in
    let rest = quantified c.args.decisive (map (bind_outcome p) c.args.rest.now)
    (outcome p c.args.test.now) in
    let q = err_from_is_err_and c.from_residual.result c.from_residual.ensures.1 in
    rw (q.1, q.2) (turn_value_fault p c.args.decisive c.args.bind.now rest (env_of c.args.env.now)
    c.turns.next _ (given c.turns.items.moves) _ c.turns.invariant.1
    (c.in_err-push_next.ensures c.turns.next))

pub eval_items-returns-in_err-truth : goal.eval_items-returns-in_err-truth
eval_items-returns-in_err-truth g t c =
    let p = program_of c.args.self.now.form.fixed.now (g.W.Calling.calls c.args.self.now.form.within.now)
    (g.W.Calling.keys c.args.self.now.form.within.now) in
    let rest = quantified c.args.decisive (map (bind_outcome p) c.args.rest.now)
    (outcome p c.args.test.now) in
    let q = err_from_is_err_and c.from_residual-in_err-truth.result
    c.from_residual-in_err-truth.ensures.1 in
    let b = rw c.if-branch.true at (c.in_ok-push_next.ensures c.turns.next) in
    let alone = c.as_slice.ensures.value ∙ (b.3 ∙ ap (λ vs. vs ++ b.1 ∷ []) c.turns.invariant.0) in
    rw (q.1, q.2) (turn_rest_fault p c.args.decisive c.args.bind.now rest (env_of c.args.env.now)
    c.turns.next _ _ _ b.0 (binding_of b.1) b.2 c.turns.invariant.1 b.4 _
    (rw alone at c.in_err-truth.ensures))

pub eval_items-returns-then-truth-decisive : goal.eval_items-returns-then-truth-decisive
eval_items-returns-then-truth-decisive g t c =
    let p = program_of c.args.self.now.form.fixed.now (g.W.Calling.calls c.args.self.now.form.within.now)
    (g.W.Calling.keys c.args.self.now.form.within.now) in
    let rest = quantified c.args.decisive (map (bind_outcome p) c.args.rest.now)
    (outcome p c.args.test.now) in
    let b = rw c.if-branch.true at (c.in_ok-push_next.ensures c.turns.next) in
    let alone = c.as_slice.ensures.value ∙ (b.3 ∙ ap (λ vs. vs ++ b.1 ∷ []) c.turns.invariant.0) in
    turn_decided p c.args.decisive c.args.bind.now rest (env_of c.args.env.now) c.turns.next _ _ _ b.0
    (binding_of b.1) b.2 c.turns.invariant.1 b.4 _ _
    (rw alone at c.in_ok-truth.ensures)
    c.if-truth-decisive.true
    ∙ ap (λ (b : Bool). Ends b c.eval_binds.new.next) (same_truth c.in_ok-truth.truth
    c.args.decisive c.if-truth-decisive.true)

pub eval_items-turns-init : goal.eval_items-turns-init
eval_items-turns-init g t c = (c.new-bound.ensures.items, refl)

pub eval_items-turns-preserved : goal.eval_items-turns-preserved
eval_items-turns-preserved g t c =
    let p = program_of c.args.self.now.form.fixed.now (g.W.Calling.calls c.args.self.now.form.within.now)
    (g.W.Calling.keys c.args.self.now.form.within.now) in
    let rest = quantified c.args.decisive (map (bind_outcome p) c.args.rest.now)
    (outcome p c.args.test.now) in
    let b = rw c.if-branch.true at (c.in_ok-push_next.ensures c.turns.next) in
    let alone = c.as_slice.ensures.value ∙ (b.3 ∙ ap (λ vs. vs ++ b.1 ∷ []) c.turns.invariant.0) in (
      c.pop_variable.ensures _ _ b.3 ∙ c.turns.invariant.0,
      turn_passed p c.args.decisive c.args.bind.now rest (env_of c.args.env.now) c.turns.next _ _ _
          b.0 (binding_of b.1) b.2 c.turns.invariant.1 b.4 _ _
          (rw alone at c.in_ok-truth.ensures)
          c.if-truth-decisive.false,
    )

pub eval_items-turns-smaller : goal.eval_items-turns-smaller
eval_items-turns-smaller g t c =
    let b = rw c.if-branch.true at (c.in_ok-push_next.ensures c.turns.next) in
    let one_less = ap (λ (xs : List Item). length xs) b.2 in
    omega arith

pub eval_items-returns : goal.eval_items-returns
eval_items-returns g t c =
    let none = rw c.if-branch.false at (c.in_ok-push_next.ensures c.turns.next) in
    rw (← c.turns.invariant.1, none) refl

pub eval_binds-returns-in_ok-items-in-len1-up : goal.eval_binds-returns-in_ok-items-in-len1-up
eval_binds-returns-in_ok-items-in-len1-up g t c =
    let p = program_of c.args.self.now.form.fixed.now (g.W.Calling.calls c.args.self.now.form.within.now)
    (g.W.Calling.keys c.args.self.now.form.within.now) in
    rw (
      first_and_rest c.args.binds.now c.first-item.result _ c.in-len1-up.len_at_least
          c.first-item.is,
      first_bind p c.args.decisive c.first-item.result
          (map (bind_outcome p) (take (length c.args.binds.now - 1) (drop 1 c.args.binds.now)))
          (outcome p c.args.test.now) (env_of c.args.env.now) c.args.next.now,
      rw c.get.ensures at
          c.in_ok-items-in-len1-up.ensures,
    ) c.eval_items-truth.ensures
