use Rattle.std.proofs.Common.{◌≡◌, arith, refl, length, ◌<◌, ◌≤◌, ◌+◌}
use Rattle.std.proofs.lemmas.Result.{err_from_is_err_and}
use Rattle.eval_scopes.specs.Scopes.{program_of}
use Rattle.eval_steps.proofs.Follow.{gathers_first, gathers_step, gathers_exit, gathers_end}
use Rattle.eval_steps.proofs.Follow.{fault_first}
use Rattle.expr_meaning.specs.SortMeaning.Sorted.{placed_from}
use Rattle.eval_steps.proofs.Places.{path_by_count, path_count_is, placed_item, placed_length}
use Rattle.path_eval.proofs.forms.ItemForm.eval_each.Goals as goal

pub loop-item-init : goal.loop-item-init
loop-item-init g c =
    (refl, gathers_first _ _ _ _ c.new-list.ensures)

pub loop-item-preserved : goal.loop-item-preserved
loop-item-preserved g c =
    let p = program_of c.args.self.now.form.fixed.now (g.W.Calling.calls c.args.self.now.form.within.now)
    (g.W.Calling.keys c.args.self.now.form.within.now) in
    let lt : c.loop-item.item-index < length c.args.left.now = omega arith in
    let size : c.in_ok-size.size ≡ length c.args.left.now = path_count_is c.args.left.now _ _ _
    (c.in_ok-size.ensures 0) in
    let lt2 : c.loop-item.item-index < length (placed_from 1 c.in_ok-size.size c.args.left.now)
    = rw (placed_length 1 c.in_ok-size.size c.args.left.now) lt in
    let here = placed_item 1 c.in_ok-size.size c.args.left.now c.loop-item.item-index
    c.item-item.result _ (record { value = c.item-item.result; place = 0; size = 0 }) lt
    c.item-item.is in
    let there : c.place_in-place.result ≡ 1 + c.loop-item.item-index = omega (
      arith,
      c.loop-item.invariant.0,
      c.place_in-place.ensures
          (omega (arith, size, lt, c.loop-item.invariant.0)),
    ) in (
      omega (arith, c.loop-item.invariant.0),
      gathers_step _ _ _ _ _ _ _ _ _ _ _
          c.loop-item.invariant.1 lt2 here (rw there at c.in_ok-more.ensures) c.in_ok-list.ensures,
    )

pub returns-in_err-more : goal.returns-in_err-more
returns-in_err-more g c =
    let p = program_of c.args.self.now.form.fixed.now (g.W.Calling.calls c.args.self.now.form.within.now)
    (g.W.Calling.keys c.args.self.now.form.within.now) in
    let lt : c.loop-item.item-index < length c.args.left.now = omega arith in
    let size : c.in_ok-size.size ≡ length c.args.left.now = path_count_is c.args.left.now _ _ _
    (c.in_ok-size.ensures 0) in
    let lt2 : c.loop-item.item-index < length (placed_from 1 c.in_ok-size.size c.args.left.now)
    = rw (placed_length 1 c.in_ok-size.size c.args.left.now) lt in
    let here = placed_item 1 c.in_ok-size.size c.args.left.now c.loop-item.item-index
    c.item-item.result _ (record { value = c.item-item.result; place = 0; size = 0 }) lt
    c.item-item.is in
    let there : c.place_in-place.result ≡ 1 + c.loop-item.item-index = omega (
      arith,
      c.loop-item.invariant.0,
      c.place_in-place.ensures
          (omega (arith, size, lt, c.loop-item.invariant.0)),
    ) in
    let q = err_from_is_err_and c.from_residual-in_err-more.result
    c.from_residual-in_err-more.ensures.1 in
    rw (
      q.1,
      q.2,
      path_by_count c.args.left.now c.args.next.now,
      c.in_ok-size.ensures
          c.args.next.now,
    ) (gathers_exit _ _ _ _ _ _ _ _ _ c.loop-item.invariant.1 lt2 here
    (rw there at c.in_err-more.ensures))

pub returns-in_err-size : goal.returns-in_err-size
returns-in_err-size g c =
    let q = err_from_is_err_and c.from_residual.result c.from_residual.ensures.1 in
    rw (q.1, q.2, path_by_count c.args.left.now c.args.next.now)
    (fault_first _ _ _ (fault_first _ _ _ (c.in_err-size.ensures c.args.next.now)))

pub returns : goal.returns
returns g c =
    let le : length c.args.left.now ≤ c.loop-item.item-index = omega arith in
    rw (path_by_count c.args.left.now c.args.next.now, c.in_ok-size.ensures c.args.next.now)
    (gathers_end _ _ _ _ _ _ c.loop-item.invariant.1 (rw
    (placed_length 1 c.in_ok-size.size c.args.left.now) le))
