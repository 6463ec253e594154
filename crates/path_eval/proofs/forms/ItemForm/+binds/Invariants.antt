use Rattle.std.proofs.Common.{◌≡◌, length, [], ◌+◌, map, ◌*◌}
use Rattle.expr_meaning.specs.Meaning.{outcome}
use Rattle.node_walks.specs.Moves.{given}
use Rattle.eval_scopes.specs.Scopes.{env_of, program_of}
use Rattle.expr_meaning.specs.Logic.{quantified, item_decides}
use Rattle.eval_steps.specs.Parts.{bind_outcome}
use Rattle.path_eval.proofs.forms.ItemForm.+binds.Given as goal

abbrev pub decreases-eval_binds : goal.decreases-eval_binds
decreases-eval_binds g l = 2 * length l.binds.now

abbrev pub decreases-eval_items : goal.decreases-eval_items
decreases-eval_items g l = 2 * length l.rest.now + 1

abbrev pub invariant-eval_items-turns : goal.invariant-eval_items-turns
invariant-eval_items-turns g l =
    let p = program_of l.self.form.fixed.now (g.W.Calling.calls l.self.form.within.now)
    (g.W.Calling.keys l.self.form.within.now) in
    let rest = quantified l.decisive (map (bind_outcome p) l.rest) (outcome p l.test) in
    (l.bound.items ≡ []) × (item_decides l.decisive (bind_outcome p l.bind) rest (env_of l.env)
    (given l.items.moves) l.next
    ≡ item_decides l.decisive (bind_outcome p l.bind) rest (env_of l.env) (given l.fn.items.moves)
    l.fn.next)

abbrev pub decreases-eval_items-turns : goal.decreases-eval_items-turns
decreases-eval_items-turns g l = length (given l.items.moves)
