use Rattle.std.proofs.Common.{◌≡◌, ◌+◌, ◌*◌, length, map}
use Rattle.expr_meaning.specs.Outcomes.Outcome.{for_each}
use Rattle.expr_meaning.specs.SortMeaning.Sorted.{placed_from}
use Rattle.expr_meaning.specs.Flow.{flow_of, for_item, for_place}
use Rattle.eval_scopes.specs.Scopes.{env_of}
use Rattle.eval_steps.specs.Parts.{bind_outcome, clause_outcome}
use Rattle.flow_eval.specs.Rows.{tuple_of, row_outcome}
use Rattle.flow_eval.proofs.Tuples.{Turns}
use Rattle.flow_eval.proofs.inner.Flows.+clauses.Given as goal

abbrev pub decreases-eval_clauses : goal.decreases-eval_clauses
decreases-eval_clauses g l = 4 * length l.clauses.now

abbrev pub decreases-eval_let : goal.decreases-eval_let
decreases-eval_let g l = 4 * length l.rest.now + 1

abbrev pub decreases-eval_for : goal.decreases-eval_for
decreases-eval_for g l = 4 * length l.rest.now + 2

abbrev pub decreases-eval_turns : goal.decreases-eval_turns
decreases-eval_turns g l = 4 * length l.rest.now + 1

abbrev pub decreases-eval_places : goal.decreases-eval_places
decreases-eval_places g l = 4 * length l.rest.now + 1

abbrev pub invariant-eval_turns-loop-item : goal.invariant-eval_turns-loop-item
invariant-eval_turns-loop-item g l =
    let p = g.W.Within.program l.self.within.now in
    let rest = flow_of (map (clause_outcome p) l.rest) (row_outcome p l.self.whole.now) in
    let f = for_item (bind_outcome p l.bind) rest (tuple_of l.fn.bound.items) (env_of l.env) in
    (l.bound.items ≡ l.fn.bound.items)
    × Turns f l.items (for_each f l.items l.fn.next) l.fn.rows l.rows l.item-index l.next

abbrev pub invariant-eval_places-loop-item : goal.invariant-eval_places-loop-item
invariant-eval_places-loop-item g l =
    let p = g.W.Within.program l.self.within.now in
    let rest = flow_of (map (clause_outcome p) l.rest) (row_outcome p l.self.whole.now) in
    let f = for_place (bind_outcome p l.bind) l.at rest (tuple_of l.fn.bound.items) (env_of l.env) in
    let fs = placed_from 1 l.size l.items in
    (l.position ≡ l.item-index) × (l.bound.items ≡ l.fn.bound.items)
    × Turns f fs (for_each f fs l.fn.next) l.fn.rows l.rows l.item-index l.next
