use Rattle.std.proofs.Common.{◌≡◌}
use Rattle.expr_meaning.specs.Meaning.{outcome}
use Rattle.xdm_items.specs.declared.items.Item.{Item}
use Rattle.eval_scopes.specs.Scopes.{env_of, program_of}
use Rattle.expr_meaning.specs.SortMeaning.Sorted.{placed_from, Placed}
use Rattle.expr_meaning.specs.Outcomes.Outcome.{for_each}
use Rattle.expr_meaning.specs.Env.{at_focus}
use Rattle.eval_steps.proofs.Follow.{Gathers}
use Rattle.path_eval.proofs.forms.ItemForm.eval_each.Given as goal

abbrev pub invariant-loop-item : goal.invariant-loop-item
invariant-loop-item g l =
    let p = program_of l.self.form.fixed.now (g.W.Calling.calls l.self.form.within.now)
    (g.W.Calling.keys l.self.form.within.now) in
    let f = λ (x : Placed Item). outcome p l.b (at_focus (env_of l.env) x) in
    let fs = placed_from 1 l.size l.left in
    (l.position ≡ l.item-index) × Gathers f fs (for_each f fs l.fn.next) l.list l.item-index l.next
