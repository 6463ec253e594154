use Rattle.std.proofs.Common.{◌≡◌, ◌+◌, ◌*◌, [], length, map}
use Rattle.expr_meaning.specs.Outcomes.Outcome.{for_each}
use Rattle.expr_meaning.specs.SortMeaning.Sorted.{placed_from}
use Rattle.expr_meaning.specs.Meaning.{outcome}
use Rattle.eval_scopes.specs.Scopes.{env_of}
use Rattle.eval_steps.specs.Parts.{bind_outcome}
use Rattle.eval_steps.proofs.Follow.{Gathers}
use Rattle.flow_eval.specs.FlowStreams.Streams.{stream_of, stream_item, stream_place, binder_of}
use Rattle.xt_syntax.specs.declared.exprs.Clause.TheViews.{out-Flwor}
use Rattle.flow_eval.proofs.inner.Flows.+stream.Given as goal

abbrev pub decreases-eval_stream : goal.decreases-eval_stream
decreases-eval_stream g l = 4 * length l.clauses.now

abbrev pub decreases-stream_let : goal.decreases-stream_let
decreases-stream_let g l = 4 * length l.rest.now + 2

abbrev pub decreases-stream_bound : goal.decreases-stream_bound
decreases-stream_bound g l = 4 * length l.rest.now + 1

abbrev pub decreases-stream_for : goal.decreases-stream_for
decreases-stream_for g l = 4 * length l.rest.now + 2

abbrev pub decreases-stream_turns : goal.decreases-stream_turns
decreases-stream_turns g l = 4 * length l.rest.now + 1

abbrev pub decreases-stream_places : goal.decreases-stream_places
decreases-stream_places g l = 4 * length l.rest.now + 1

abbrev pub invariant-stream_turns-loop-item : goal.invariant-stream_turns-loop-item
invariant-stream_turns-loop-item g l =
    let p = g.W.Within.program l.self.within.now in
    let rest = stream_of (map (binder_of p) l.rest) (outcome p (out-Flwor l.self.whole.now).body) in
    let f = stream_item (bind_outcome p l.bind) rest (env_of l.env) in
    (l.bound.items ≡ []) × Gathers f l.items (for_each f l.items l.fn.next) l.list l.item-index l.next

abbrev pub invariant-stream_places-loop-item : goal.invariant-stream_places-loop-item
invariant-stream_places-loop-item g l =
    let p = g.W.Within.program l.self.within.now in
    let rest = stream_of (map (binder_of p) l.rest) (outcome p (out-Flwor l.self.whole.now).body) in
    let f = stream_place (bind_outcome p l.bind) l.at rest (env_of l.env) in
    let fs = placed_from 1 l.size l.items in
    (l.position ≡ l.item-index) × (l.bound.items ≡ []) × Gathers f fs (for_each f fs l.fn.next) l.list l.item-index l.next
