use Rattle.std.proofs.Common.{◌≡◌, ◌∙◌, arith, refl, length, ◌<◌, ◌≤◌, ◌+◌, map}
use Rattle.std.proofs.lemmas.Result.{err_from_is_err_and}
use Rattle.eval_scopes.specs.Scopes.{env_of}
use Rattle.eval_steps.proofs.Follow.{fault_first}
use Rattle.expr_meaning.specs.Flow.{flow_of}
use Rattle.expr_meaning.specs.SortMeaning.Sorted.{placed_from}
use Rattle.eval_steps.specs.Parts.{clause_outcome}
use Rattle.flow_eval.specs.Rows.{tuple_of, row_outcome}
use Rattle.eval_steps.proofs.Forms.{for_means, let_means, first_and_rest}
use Rattle.flow_eval.proofs.Tuples.{turns_first, turns_step, turns_exit, turns_end, item_turn}
use Rattle.flow_eval.proofs.Tuples.{item_turn_fault, place_turn, place_turn_fault, tuple_more}
use Rattle.flow_eval.proofs.Tuples.{let_value, for_places}
use Rattle.eval_steps.proofs.Places.{places_by_count, count_is}
use Rattle.eval_steps.proofs.Places.{placed_item, placed_length}
use Rattle.flow_eval.proofs.inner.Flows.+clauses.Goals as goal

pub eval_clauses-returns-in-For-clause-rows : goal.eval_clauses-returns-in-For-clause-rows
eval_clauses-returns-in-For-clause-rows g t c =
    let p = g.W.Within.program c.args.self.now.within.now in
    rw (
      first_and_rest c.args.clauses.now c.first-item.result _ c.in-len1-up.len_at_least
          c.first-item.is,
      c.in-For.is,
      for_means p c.in-For.bind c.in-For.place,
    )
    c.eval_for.ensures.rows

pub eval_clauses-returns-in-Let-clause-rows : goal.eval_clauses-returns-in-Let-clause-rows
eval_clauses-returns-in-Let-clause-rows g t c =
    let p = g.W.Within.program c.args.self.now.within.now in
    rw (
      first_and_rest c.args.clauses.now c.first-item.result _ c.in-len1-up.len_at_least
          c.first-item.is,
      c.in-Let.is,
      let_means p c.in-Let.bind,
    ) c.eval_let.ensures.rows

pub eval_let-returns-in_err-eval_clauses-clause-rows :
    goal.eval_let-returns-in_err-eval_clauses-clause-rows
eval_let-returns-in_err-eval_clauses-clause-rows g t c =
    let p = g.W.Within.program c.args.self.now.within.now in
    let b = c.in_ok-push_value.ensures c.eval_behind.new.next in
    let q = err_from_is_err_and c.from_residual-in_err-eval_clauses.result
    c.from_residual-in_err-eval_clauses.ensures.1 in
    rw (q.1, q.2) (rw (let_value p c.args.bind.now (flow_of
    (map (clause_outcome p) c.args.rest.now) (row_outcome p c.args.self.now.whole.now))
    (tuple_of c.args.bound.now.items) (env_of c.args.env.now) c.args.next.now _ _ _
    (rw (c.get.ensures, c.as_slice.ensures.value) at c.in_ok-items.ensures)
    b.2) (rw (b.1, tuple_more _ _) at
    c.in_err-eval_clauses.ensures.rows))

pub eval_let-returns-clause-rows : goal.eval_let-returns-clause-rows
eval_let-returns-clause-rows g t c =
    let p = g.W.Within.program c.args.self.now.within.now in
    let b = c.in_ok-push_value.ensures c.eval_behind.new.next in
    rw (let_value p c.args.bind.now (flow_of (map (clause_outcome p) c.args.rest.now)
    (row_outcome p c.args.self.now.whole.now)) (tuple_of c.args.bound.now.items) (env_of c.args.env.now)
    c.args.next.now _ _ _ (rw (c.get.ensures, c.as_slice.ensures.value) at c.in_ok-items.ensures)
    b.2) (rw (b.1, tuple_more _ _) at
    c.in_ok-eval_clauses.ensures.rows)

pub eval_let-returns-clause-bound : goal.eval_let-returns-clause-bound
eval_let-returns-clause-bound g t c =
    let b = c.in_ok-push_value.ensures c.eval_behind.new.next in
    c.pop_variable.ensures _ _ (c.in_ok-eval_clauses.ensures.bound ∙ b.1)

pub eval_for-returns-clause-rows : goal.eval_for-returns-clause-rows
eval_for-returns-clause-rows g t c =
    let p = g.W.Within.program c.args.self.now.within.now in
    rw (
      c.in-Some.is,
      for_places p c.args.bind.now (flow_of
          (map (clause_outcome p) c.args.rest.now) (row_outcome p c.args.self.now.whole.now))
          (tuple_of c.args.bound.now.items) (env_of c.args.env.now) c.args.next.now _ _
          (rw (c.get.ensures, c.as_slice.ensures.value) at c.in_ok-items.ensures) c.in-Some.at,
    )
    (rw c.as_slice-in-Some.ensures at c.eval_places.ensures.rows)

pub eval_turns-loop-item-init : goal.eval_turns-loop-item-init
eval_turns-loop-item-init g t c =
    (refl, turns_first _ _ _ _ c.requires.even)

pub eval_turns-returns-in_err-push_item-clause-rows :
    goal.eval_turns-returns-in_err-push_item-clause-rows
eval_turns-returns-in_err-push_item-clause-rows g t c =
    let p = g.W.Within.program c.args.self.now.within.now in
    let lt : c.loop-item.item-index < length c.args.items.now = omega arith in
    let q = err_from_is_err_and c.from_residual.result c.from_residual.ensures.1 in
    rw (q.1, q.2) (turns_exit _ _ _ _ _ _ _ _ _ _ c.loop-item.invariant.1 lt c.item-item.is
    (item_turn_fault p c.args.bind.now (flow_of (map (clause_outcome p) c.args.rest.now)
    (row_outcome p c.args.self.now.whole.now)) (tuple_of c.args.bound.now.items) (env_of c.args.env.now)
    c.item-item.result c.loop-item.next _ (c.in_err-push_item.ensures c.loop-item.next)))

pub eval_turns-returns-in_err-eval_clauses-clause-rows :
    goal.eval_turns-returns-in_err-eval_clauses-clause-rows
eval_turns-returns-in_err-eval_clauses-clause-rows g t c =
    let p = g.W.Within.program c.args.self.now.within.now in
    let b = c.in_ok-push_item.ensures c.loop-item.next in
    let lt : c.loop-item.item-index < length c.args.items.now = omega arith in
    let q = err_from_is_err_and c.from_residual-in_err-eval_clauses.result
    c.from_residual-in_err-eval_clauses.ensures.1 in
    rw (q.1, q.2) (turns_exit _ _ _ _ _ _ _ _ _ _ c.loop-item.invariant.1 lt c.item-item.is
    (rw (item_turn p c.args.bind.now (flow_of (map (clause_outcome p) c.args.rest.now)
    (row_outcome p c.args.self.now.whole.now)) (tuple_of c.args.bound.now.items) (env_of c.args.env.now)
    c.item-item.result c.loop-item.next _ b.2)
    (rw (b.1, tuple_more _ _, c.loop-item.invariant.0) at
    c.in_err-eval_clauses.ensures.rows)))

pub eval_turns-loop-item-preserved : goal.eval_turns-loop-item-preserved
eval_turns-loop-item-preserved g t c =
    let p = g.W.Within.program c.args.self.now.within.now in
    let b = c.in_ok-push_item.ensures c.loop-item.next in
    let lt : c.loop-item.item-index < length c.args.items.now = omega arith in (
      c.pop_variable.ensures _ _ (c.in_ok-eval_clauses.ensures.bound ∙
          b.1) ∙ c.loop-item.invariant.0,
      turns_step _ _ _ _ _ _ _ _ _ _ _
          c.loop-item.invariant.1 lt c.item-item.is (rw (item_turn p c.args.bind.now
          (flow_of (map (clause_outcome p) c.args.rest.now) (row_outcome p c.args.self.now.whole.now))
          (tuple_of c.args.bound.now.items) (env_of c.args.env.now) c.item-item.result c.loop-item.next
          _ b.2) (rw
          (b.1, tuple_more _ _, c.loop-item.invariant.0) at
          c.in_ok-eval_clauses.ensures.rows)),
    )

pub eval_turns-returns-clause-rows : goal.eval_turns-returns-clause-rows
eval_turns-returns-clause-rows g t c =
    let p = g.W.Within.program c.args.self.now.within.now in
    let le : length c.args.items.now ≤ c.loop-item.item-index = omega arith in
    turns_end _ _ _ _ _ _ _ c.loop-item.invariant.1 le

pub eval_turns-returns-clause-bound : goal.eval_turns-returns-clause-bound
eval_turns-returns-clause-bound g t c =
    c.loop-item.invariant.0

pub eval_places-loop-item-init : goal.eval_places-loop-item-init
eval_places-loop-item-init g t c =
    (refl, refl, turns_first _ _ _ _ c.requires.even)

pub eval_places-returns-in_err-size-clause-rows : goal.eval_places-returns-in_err-size-clause-rows
eval_places-returns-in_err-size-clause-rows g t c =
    let q = err_from_is_err_and c.from_residual.result c.from_residual.ensures.1 in
    rw (q.1, q.2, places_by_count c.args.items.now c.args.next.now)
    (fault_first _ _ _ (fault_first _ _ _ (c.in_err-size.ensures c.args.next.now)))

pub eval_places-returns-in_err-push_item-clause-rows :
    goal.eval_places-returns-in_err-push_item-clause-rows
eval_places-returns-in_err-push_item-clause-rows g t c =
    let p = g.W.Within.program c.args.self.now.within.now in
    let lt : c.loop-item.item-index < length c.args.items.now = omega arith in
    let size : c.in_ok-size.size ≡ length c.args.items.now = count_is c.args.items.now _ _ _
    (c.in_ok-size.ensures 0) in
    let lt2 : c.loop-item.item-index < length (placed_from 1 c.in_ok-size.size c.args.items.now)
    = rw (placed_length 1 c.in_ok-size.size c.args.items.now) lt in
    let here = placed_item 1 c.in_ok-size.size c.args.items.now c.loop-item.item-index
    c.item-item.result _ (record { value = c.item-item.result; place = 0; size = 0 }) lt
    c.item-item.is in
    let q = err_from_is_err_and c.from_residual-in_err-push_item.result
    c.from_residual-in_err-push_item.ensures.1 in
    rw (
      q.1,
      q.2,
      places_by_count c.args.items.now c.args.next.now,
      c.in_ok-size.ensures
          c.args.next.now,
    ) (turns_exit _ _ _ _ _ _ _ _ _ _ c.loop-item.invariant.2 lt2 here
    (place_turn_fault p c.args.bind.now c.args.at.now (flow_of
    (map (clause_outcome p) c.args.rest.now) (row_outcome p c.args.self.now.whole.now))
    (tuple_of c.args.bound.now.items) (env_of c.args.env.now)
    (record {
      value = c.item-item.result;
      place = 1 + c.loop-item.item-index;
      size =
          c.in_ok-size.size;
    }) c.loop-item.next _ (c.in_err-push_item.ensures c.loop-item.next)))

pub eval_places-returns-in_err-eval_clauses-clause-rows :
    goal.eval_places-returns-in_err-eval_clauses-clause-rows
eval_places-returns-in_err-eval_clauses-clause-rows g t c =
    let p = g.W.Within.program c.args.self.now.within.now in
    let b = c.in_ok-push_item.ensures c.loop-item.next in
    let a = c.in_ok-push_position.ensures in
    let lt : c.loop-item.item-index < length c.args.items.now = omega arith in
    let size : c.in_ok-size.size ≡ length c.args.items.now = count_is c.args.items.now _ _ _
    (c.in_ok-size.ensures 0) in
    let lt2 : c.loop-item.item-index < length (placed_from 1 c.in_ok-size.size c.args.items.now)
    = rw (placed_length 1 c.in_ok-size.size c.args.items.now) lt in
    let here = placed_item 1 c.in_ok-size.size c.args.items.now c.loop-item.item-index
    c.item-item.result _ (record { value = c.item-item.result; place = 0; size = 0 }) lt
    c.item-item.is in
    let there : c.place_in.result ≡ 1 + c.loop-item.item-index = omega (
      arith,
      c.loop-item.invariant.0,
      c.place_in.ensures
          (omega (arith, size, lt, c.loop-item.invariant.0)),
    ) in
    let q = err_from_is_err_and c.from_residual-in_err-eval_clauses.result
    c.from_residual-in_err-eval_clauses.ensures.1 in
    rw (
      q.1,
      q.2,
      places_by_count c.args.items.now c.args.next.now,
      c.in_ok-size.ensures
          c.args.next.now,
    ) (turns_exit _ _ _ _ _ _ _ _ _ _ c.loop-item.invariant.2 lt2 here
    (rw (place_turn p c.args.bind.now c.args.at.now (flow_of
    (map (clause_outcome p) c.args.rest.now) (row_outcome p c.args.self.now.whole.now))
    (tuple_of c.args.bound.now.items) (env_of c.args.env.now)
    (record {
      value = c.item-item.result;
      place = 1 + c.loop-item.item-index;
      size =
          c.in_ok-size.size;
    }) c.loop-item.next _ b.2)
    (rw (
      a.1,
      tuple_more _ _,
      a.2,
      b.1,
      tuple_more _ _,
      c.loop-item.invariant.1,
      there,
    ) at
    c.in_err-eval_clauses.ensures.rows)))

pub eval_places-loop-item-preserved : goal.eval_places-loop-item-preserved
eval_places-loop-item-preserved g t c =
    let p = g.W.Within.program c.args.self.now.within.now in
    let b = c.in_ok-push_item.ensures c.loop-item.next in
    let a = c.in_ok-push_position.ensures in
    let lt : c.loop-item.item-index < length c.args.items.now = omega arith in
    let size : c.in_ok-size.size ≡ length c.args.items.now = count_is c.args.items.now _ _ _
    (c.in_ok-size.ensures 0) in
    let lt2 : c.loop-item.item-index < length (placed_from 1 c.in_ok-size.size c.args.items.now)
    = rw (placed_length 1 c.in_ok-size.size c.args.items.now) lt in
    let here = placed_item 1 c.in_ok-size.size c.args.items.now c.loop-item.item-index
    c.item-item.result _ (record { value = c.item-item.result; place = 0; size = 0 }) lt
    c.item-item.is in
    let there : c.place_in.result ≡ 1 + c.loop-item.item-index = omega (
      arith,
      c.loop-item.invariant.0,
      c.place_in.ensures
          (omega (arith, size, lt, c.loop-item.invariant.0)),
    ) in (
      omega (arith, c.loop-item.invariant.0),
      c.pop_variable-in-loop-item.ensures _ _
          (c.pop_variable.ensures _ _ (c.in_ok-eval_clauses.ensures.bound ∙
          a.1) ∙ b.1) ∙ c.loop-item.invariant.1,
      turns_step _ _ _ _ _ _ _ _ _ _ _ c.loop-item.invariant.2 lt2 here
          (rw (place_turn p c.args.bind.now c.args.at.now (flow_of
          (map (clause_outcome p) c.args.rest.now) (row_outcome p c.args.self.now.whole.now))
          (tuple_of c.args.bound.now.items) (env_of c.args.env.now)
          (record {
            value = c.item-item.result;
            place = 1 + c.loop-item.item-index;
            size =
                c.in_ok-size.size;
          }) c.loop-item.next _ b.2)
          (rw (
            a.1,
            tuple_more _ _,
            a.2,
            b.1,
            tuple_more _ _,
            c.loop-item.invariant.1,
            there,
          ) at
          c.in_ok-eval_clauses.ensures.rows)),
    )

pub eval_places-returns-clause-rows : goal.eval_places-returns-clause-rows
eval_places-returns-clause-rows g t c =
    let p = g.W.Within.program c.args.self.now.within.now in
    let le : length c.args.items.now ≤ c.loop-item.item-index = omega arith in
    rw (places_by_count c.args.items.now c.args.next.now, c.in_ok-size.ensures c.args.next.now)
    (turns_end _ _ _ _ _ _ _ c.loop-item.invariant.2 (rw
    (placed_length 1 c.in_ok-size.size c.args.items.now) le))

pub eval_places-returns-clause-bound : goal.eval_places-returns-clause-bound
eval_places-returns-clause-bound g t c =
    c.loop-item.invariant.1
