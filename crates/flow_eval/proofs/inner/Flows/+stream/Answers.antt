use Rattle.std.proofs.Common.{◌≡◌, ◌∙◌, arith, refl, length, ◌<◌, ◌≤◌, ◌+◌, map}
use Rattle.std.proofs.lemmas.Result.{err_from_is_err_and}
use Rattle.expr_meaning.specs.Meaning.{outcome}
use Rattle.eval_scopes.specs.Scopes.{env_of}
use Rattle.eval_steps.proofs.Follow.{gathers_first, gathers_step, gathers_exit, gathers_end}
use Rattle.eval_steps.proofs.Follow.{fault_first}
use Rattle.expr_meaning.specs.SortMeaning.Sorted.{placed_from}
use Rattle.eval_steps.proofs.Forms.{no_items, first_and_rest}
use Rattle.eval_steps.proofs.Places.{places_by_count, count_is}
use Rattle.flow_eval.specs.FlowStreams.Streams.{stream_of, binder_of}
use Rattle.flow_eval.proofs.FlowStreams.Clauses.{for_binds, let_binds}
use Rattle.flow_eval.proofs.FlowStreams.Turns.{item_streams, item_fails, place_streams, place_fails}
use Rattle.flow_eval.proofs.FlowStreams.Turns.{for_fails}
use Rattle.flow_eval.proofs.FlowStreams.Turns.{for_turns as stream_turns_of}
use Rattle.xt_syntax.specs.declared.exprs.Clause.TheViews.{out-Flwor}
use Rattle.eval_steps.proofs.Places.{placed_item, placed_length}
use Rattle.flow_eval.proofs.Lets.{let_behind}
use Rattle.flow_eval.proofs.inner.Flows.+stream.Goals as goal

pub eval_stream-returns-in-empty : goal.eval_stream-returns-in-empty
eval_stream-returns-in-empty g t c =
    rw (no_items c.args.clauses.now c.in-empty.len_below)
    (rw c.get.ensures at c.eval_into.ensures)

pub eval_stream-returns-in-For : goal.eval_stream-returns-in-For
eval_stream-returns-in-For g t c =
    let p = g.W.Within.program c.args.self.now.within.now in
    rw (
      first_and_rest c.args.clauses.now c.first-item.result _ c.in-len1-up.len_at_least
          c.first-item.is,
      c.in-For.is,
      for_binds p c.in-For.bind c.in-For.place,
    ) c.stream_for.ensures

pub eval_stream-returns-in-Let : goal.eval_stream-returns-in-Let
eval_stream-returns-in-Let g t c =
    let p = g.W.Within.program c.args.self.now.within.now in
    rw (
      first_and_rest c.args.clauses.now c.first-item.result _ c.in-len1-up.len_at_least
          c.first-item.is,
      c.in-Let.is,
      let_binds p c.in-Let.bind,
    ) c.stream_let.ensures

pub stream_bound-returns-in_err-push_let : goal.stream_bound-returns-in_err-push_let
stream_bound-returns-in_err-push_let g t c =
    let p = g.W.Within.program c.args.self.now.within.now in
    let q = err_from_is_err_and c.from_residual.result c.from_residual.ensures.1 in
    rw (
      q.1,
      q.2,
      let_behind p c.args.bind.now (stream_of (map (binder_of p) c.args.rest.now)
          (outcome p (out-Flwor c.args.self.now.whole.now).body)) (env_of c.args.env.now) c.args.next.now,
    )
    (fault_first _ _ _ c.in_err-push_let.ensures)

pub stream_bound-returns-in-empty : goal.stream_bound-returns-in-empty
stream_bound-returns-in-empty g t c =
    let p = g.W.Within.program c.args.self.now.within.now in
    let b = c.in_ok-push_let.ensures in
    rw (
      let_behind p c.args.bind.now (stream_of (map (binder_of p) c.args.rest.now)
          (outcome p (out-Flwor c.args.self.now.whole.now).body)) (env_of c.args.env.now)
          c.args.next.now,
      b.2,
      no_items c.args.rest.now c.in-empty.len_below,
    ) (rw (c.get.ensures, c.as_slice.ensures.value, b.1, c.requires.none) at
    c.eval_into.ensures)

pub stream_bound-returns-in_default : goal.stream_bound-returns-in_default
stream_bound-returns-in_default g t c =
    let p = g.W.Within.program c.args.self.now.within.now in
    let b = c.in_ok-push_let.ensures in
    rw (
      let_behind p c.args.bind.now (stream_of (map (binder_of p) c.args.rest.now)
          (outcome p (out-Flwor c.args.self.now.whole.now).body)) (env_of c.args.env.now)
          c.args.next.now,
      b.2,
    ) (rw (c.as_slice.ensures.value, b.1, c.requires.none) at c.eval_stream.ensures)

pub stream_for-returns-in_err-eval_into : goal.stream_for-returns-in_err-eval_into
stream_for-returns-in_err-eval_into g t c =
    let p = g.W.Within.program c.args.self.now.within.now in
    let q = err_from_is_err_and c.from_residual.result c.from_residual.ensures.1 in
    rw (q.1, q.2) (for_fails p c.args.bind.now (stream_of (map (binder_of p) c.args.rest.now)
    (outcome p (out-Flwor c.args.self.now.whole.now).body)) (env_of c.args.env.now) c.args.next.now c.args.place.now _
    (rw c.get.ensures at c.in_err-eval_into.ensures))

pub stream_for-returns-in-None : goal.stream_for-returns-in-None
stream_for-returns-in-None g t c =
    let p = g.W.Within.program c.args.self.now.within.now in
    rw (
      c.in-None.is,
      stream_turns_of p c.args.bind.now (stream_of (map (binder_of p) c.args.rest.now)
          (outcome p (out-Flwor c.args.self.now.whole.now).body)) (env_of c.args.env.now) c.args.next.now _ _
          (rw c.get.ensures at c.in_ok-eval_into.ensures),
    )
    (rw c.as_slice.ensures at c.stream_turns.ensures)

pub stream_turns-loop-item-init : goal.stream_turns-loop-item-init
stream_turns-loop-item-init g t c =
    (c.new-bound.ensures.items, gathers_first _ _ _ _ c.new-list.ensures)

pub stream_turns-returns-in_err-push_item : goal.stream_turns-returns-in_err-push_item
stream_turns-returns-in_err-push_item g t c =
    let p = g.W.Within.program c.args.self.now.within.now in
    let lt : c.loop-item.item-index < length c.args.items.now = omega arith in
    let q = err_from_is_err_and c.from_residual.result c.from_residual.ensures.1 in
    rw (q.1, q.2) (gathers_exit _ _ _ _ _ _ _ _ _ c.loop-item.invariant.1 lt c.item-item.is
    (item_fails p c.args.bind.now (stream_of (map (binder_of p) c.args.rest.now)
    (outcome p (out-Flwor c.args.self.now.whole.now).body)) (env_of c.args.env.now) c.item-item.result c.loop-item.next _
    (c.in_err-push_item.ensures c.loop-item.next)))

pub stream_turns-returns-in_err-eval_stream : goal.stream_turns-returns-in_err-eval_stream
stream_turns-returns-in_err-eval_stream g t c =
    let p = g.W.Within.program c.args.self.now.within.now in
    let b = c.in_ok-push_item.ensures c.loop-item.next in
    let lt : c.loop-item.item-index < length c.args.items.now = omega arith in
    let q = err_from_is_err_and c.from_residual-in_err-eval_stream.result
    c.from_residual-in_err-eval_stream.ensures.1 in
    rw (q.1, q.2) (gathers_exit _ _ _ _ _ _ _ _ _ c.loop-item.invariant.1 lt c.item-item.is
    (rw (item_streams p c.args.bind.now (stream_of (map (binder_of p) c.args.rest.now)
    (outcome p (out-Flwor c.args.self.now.whole.now).body)) (env_of c.args.env.now) c.item-item.result c.loop-item.next _
    b.2) (rw
    (c.as_slice.ensures.value, b.1, c.loop-item.invariant.0) at c.in_err-eval_stream.ensures)))

pub stream_turns-loop-item-preserved : goal.stream_turns-loop-item-preserved
stream_turns-loop-item-preserved g t c =
    let p = g.W.Within.program c.args.self.now.within.now in
    let b = c.in_ok-push_item.ensures c.loop-item.next in
    let lt : c.loop-item.item-index < length c.args.items.now = omega arith in (
      c.pop_variable.ensures _ _ b.1 ∙ c.loop-item.invariant.0,
      gathers_step _ _ _ _ _ _ _ _ _ _ _ c.loop-item.invariant.1 lt c.item-item.is
          (rw (item_streams p c.args.bind.now (stream_of (map (binder_of p) c.args.rest.now)
          (outcome p (out-Flwor c.args.self.now.whole.now).body)) (env_of c.args.env.now) c.item-item.result c.loop-item.next _
          b.2) (rw
          (c.as_slice.ensures.value, b.1, c.loop-item.invariant.0) at c.in_ok-eval_stream.ensures))
          c.in_ok-join.ensures,
    )

pub stream_turns-returns : goal.stream_turns-returns
stream_turns-returns g t c =
    let le : length c.args.items.now ≤ c.loop-item.item-index = omega arith in
    gathers_end _ _ _ _ _ _ c.loop-item.invariant.1 le

pub stream_places-loop-item-init : goal.stream_places-loop-item-init
stream_places-loop-item-init g t c =
    (refl, c.new-bound.ensures.items, gathers_first _ _ _ _ c.new-list.ensures)

pub stream_places-returns-in_err-size : goal.stream_places-returns-in_err-size
stream_places-returns-in_err-size g t c =
    let q = err_from_is_err_and c.from_residual.result c.from_residual.ensures.1 in
    rw (q.1, q.2, places_by_count c.args.items.now c.args.next.now)
    (fault_first _ _ _ (fault_first _ _ _ (c.in_err-size.ensures c.args.next.now)))

pub stream_places-returns-in_err-push_item : goal.stream_places-returns-in_err-push_item
stream_places-returns-in_err-push_item g t c =
    let p = g.W.Within.program c.args.self.now.within.now in
    let lt : c.loop-item.item-index < length c.args.items.now = omega arith in
    let size : c.in_ok-size.size ≡ length c.args.items.now = count_is c.args.items.now _ _ _
    (c.in_ok-size.ensures 0) in
    let lt2 : c.loop-item.item-index < length (placed_from 1 c.in_ok-size.size c.args.items.now)
    = rw (placed_length 1 c.in_ok-size.size c.args.items.now) lt in
    let here = placed_item 1 c.in_ok-size.size c.args.items.now c.loop-item.item-index
    c.item-item.result _ (record { value = c.item-item.result; place = 0; size = 0 }) lt
    c.item-item.is in
    let q = err_from_is_err_and c.from_residual-in_err-push_item.result
    c.from_residual-in_err-push_item.ensures.1 in
    rw (
      q.1,
      q.2,
      places_by_count c.args.items.now c.args.next.now,
      c.in_ok-size.ensures c.args.next.now,
    )
    (gathers_exit _ _ _ _ _ _ _ _ _ c.loop-item.invariant.2 lt2 here
    (place_fails p c.args.bind.now c.args.at.now (stream_of (map (binder_of p) c.args.rest.now)
    (outcome p (out-Flwor c.args.self.now.whole.now).body))
    (env_of c.args.env.now)
    (record {
      value = c.item-item.result;
      place = 1 + c.loop-item.item-index;
      size = c.in_ok-size.size;
    }) c.loop-item.next _ (c.in_err-push_item.ensures c.loop-item.next)))

pub stream_places-returns-in_err-eval_stream : goal.stream_places-returns-in_err-eval_stream
stream_places-returns-in_err-eval_stream g t c =
    let p = g.W.Within.program c.args.self.now.within.now in
    let b = c.in_ok-push_item.ensures c.loop-item.next in
    let a = c.in_ok-push_position.ensures in
    let lt : c.loop-item.item-index < length c.args.items.now = omega arith in
    let size : c.in_ok-size.size ≡ length c.args.items.now = count_is c.args.items.now _ _ _
    (c.in_ok-size.ensures 0) in
    let lt2 : c.loop-item.item-index < length (placed_from 1 c.in_ok-size.size c.args.items.now)
    = rw (placed_length 1 c.in_ok-size.size c.args.items.now) lt in
    let here = placed_item 1 c.in_ok-size.size c.args.items.now c.loop-item.item-index
    c.item-item.result _ (record { value = c.item-item.result; place = 0; size = 0 }) lt
    c.item-item.is in
    let there : c.place_in.result ≡ 1 + c.loop-item.item-index = omega (
      arith,
      c.loop-item.invariant.0,
      c.place_in.ensures
          (omega (arith, size, lt, c.loop-item.invariant.0)),
    ) in
    let q = err_from_is_err_and c.from_residual-in_err-eval_stream.result
    c.from_residual-in_err-eval_stream.ensures.1 in
    rw (
      q.1,
      q.2,
      places_by_count c.args.items.now c.args.next.now,
      c.in_ok-size.ensures c.args.next.now,
    )
    (gathers_exit _ _ _ _ _ _ _ _ _ c.loop-item.invariant.2 lt2 here
    (rw (place_streams p c.args.bind.now c.args.at.now (stream_of (map (binder_of p) c.args.rest.now)
    (outcome p (out-Flwor c.args.self.now.whole.now).body))
    (env_of c.args.env.now)
    (record {
      value = c.item-item.result;
      place = 1 + c.loop-item.item-index;
      size = c.in_ok-size.size;
    }) c.loop-item.next _ b.2)
    (rw (
      c.as_slice.ensures.value,
      a.1,
      b.1,
      c.loop-item.invariant.1,
      a.2,
      there,
    ) at
    c.in_err-eval_stream.ensures)))

pub stream_places-loop-item-preserved : goal.stream_places-loop-item-preserved
stream_places-loop-item-preserved g t c =
    let p = g.W.Within.program c.args.self.now.within.now in
    let b = c.in_ok-push_item.ensures c.loop-item.next in
    let a = c.in_ok-push_position.ensures in
    let lt : c.loop-item.item-index < length c.args.items.now = omega arith in
    let size : c.in_ok-size.size ≡ length c.args.items.now = count_is c.args.items.now _ _ _
    (c.in_ok-size.ensures 0) in
    let lt2 : c.loop-item.item-index < length (placed_from 1 c.in_ok-size.size c.args.items.now)
    = rw (placed_length 1 c.in_ok-size.size c.args.items.now) lt in
    let here = placed_item 1 c.in_ok-size.size c.args.items.now c.loop-item.item-index
    c.item-item.result _ (record { value = c.item-item.result; place = 0; size = 0 }) lt
    c.item-item.is in
    let there : c.place_in.result ≡ 1 + c.loop-item.item-index = omega (
      arith,
      c.loop-item.invariant.0,
      c.place_in.ensures
          (omega (arith, size, lt, c.loop-item.invariant.0)),
    ) in (
      omega (arith, c.loop-item.invariant.0),
      c.pop_variable-in-loop-item.ensures _ _ (c.pop_variable.ensures _ _ a.1 ∙ b.1)
          ∙ c.loop-item.invariant.1,
      gathers_step _ _ _ _ _ _ _ _ _ _ _ c.loop-item.invariant.2 lt2 here
          (rw (place_streams p c.args.bind.now c.args.at.now (stream_of (map (binder_of p) c.args.rest.now)
          (outcome p (out-Flwor c.args.self.now.whole.now).body))
          (env_of c.args.env.now)
          (record {
            value = c.item-item.result;
            place = 1 + c.loop-item.item-index;
            size = c.in_ok-size.size;
          }) c.loop-item.next _ b.2)
          (rw (
            c.as_slice.ensures.value,
            a.1,
            b.1,
            c.loop-item.invariant.1,
            a.2,
            there,
          ) at
          c.in_ok-eval_stream.ensures)) c.in_ok-join.ensures,
    )

pub stream_places-returns : goal.stream_places-returns
stream_places-returns g t c =
    let le : length c.args.items.now ≤ c.loop-item.item-index = omega arith in
    rw (places_by_count c.args.items.now c.args.next.now, c.in_ok-size.ensures c.args.next.now)
    (gathers_end _ _ _ _ _ _ c.loop-item.invariant.2 (rw
    (placed_length 1 c.in_ok-size.size c.args.items.now) le))
