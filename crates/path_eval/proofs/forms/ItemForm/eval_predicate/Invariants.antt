use Rattle.std.proofs.Common.{◌≡◌}
use Rattle.expr_meaning.specs.Meaning.{outcome}
use Rattle.eval_scopes.specs.Scopes.{env_of, program_of}
use Rattle.expr_meaning.specs.SortMeaning.Sorted.{placed_from}
use Rattle.expr_meaning.specs.Outcomes.Outcome.{for_each}
use Rattle.expr_meaning.specs.Paths.{kept_item}
use Rattle.eval_steps.proofs.Follow.{Gathers}
use Rattle.path_eval.proofs.forms.ItemForm.eval_predicate.Given as goal

abbrev pub invariant-loop-item : goal.invariant-loop-item
invariant-loop-item g l =
    let p = program_of l.self.form.fixed.now (g.W.Calling.calls l.self.form.within.now)
    (g.W.Calling.keys l.self.form.within.now) in
    let f = kept_item (outcome p l.test) (env_of l.env) in
    let fs = placed_from 1 l.size l.items in
    (l.position ≡ l.item-index) × Gathers f fs (for_each f fs l.fn.next) l.kept l.item-index l.next
