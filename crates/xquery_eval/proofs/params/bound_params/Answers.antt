use Rattle.std.proofs.Common.{◌≡◌, Some, sym, ap, ◌∙◌, arith, length, add-one, subst}
use Rattle.std.proofs.lemmas.Result.{err_from_is_err_and}
use Rattle.std.specs.Option.{option_copied}
use Rattle.xquery_eval.proofs.ParamLemmas.{all_bound, bound_there, fault_there, got, none_there}
use Rattle.xquery_eval.proofs.ParamLemmas.{BoundBefore}
use Rattle.xquery_eval.proofs.params.bound_params.Goals.{in-Some+in_ok-bound_to+in_ok-push_bound}
use Rattle.xquery_eval.proofs.params.bound_params.Goals.{in_default}
use Rattle.xquery_eval.proofs.params.bound_params.Goals as goal

pub loop-place-preserved : goal.loop-place-preserved
loop-place-preserved c =
    let params = c.args.params.now in
    let lists = c.args.lists.now in
    let i = c.loop-place.place in
    elim c.match-list_at.branch [
      | in-Some+in_ok-bound_to+in_ok-push_bound w ↦
          rw (add-one, w.bound-is, w.in_ok-push_bound.ensures)
          (bound_there params lists c.loop-place.bound.items i c.loop-place.invariant
          w.index-params-place.result w.in-Some.list.now
          (got params i w.index-params-place.result _ c.loop-place-test.true
          w.index-params-place.is)
          (sym c.list_at.ensures ∙ ap option_copied w.in-Some.is) w.in_ok-bound_to.field-0
          w.in_ok-bound_to.ensures.0 w.in_ok-bound_to.ensures.1 w.in_ok-bound_to.ensures.2)
      | in_default w ↦
          rw (add-one, w.bound-is)
          (none_there params lists c.loop-place.bound.items i c.loop-place.invariant
          (sym c.list_at.ensures ∙ ap option_copied w.in_default.is))
    ]

pub returns-in_err-bound_to : goal.returns-in_err-bound_to
returns-in_err-bound_to c =
    let params = c.args.params.now in
    let lists = c.args.lists.now in
    let i = c.loop-place.place in
    let q = err_from_is_err_and c.from_residual.result c.from_residual.ensures.1 in
    rw (q.1, q.2)
    (fault_there params lists c.loop-place.bound.items i c.loop-place.invariant
    c.index-params-place.result c.in-Some.list.now
    (got params i c.index-params-place.result _ c.loop-place-test.true c.index-params-place.is)
    (sym c.list_at.ensures ∙ ap option_copied c.in-Some.is) c.in_err-bound_to.field-0.0
    c.in_err-bound_to.ensures)

pub returns : goal.returns
returns c =
    let long = c.loop-place-test.false in
    let within = c.loop-place.auto.place-end in
    let over : c.loop-place.place ≡ length c.args.params.now = omega (arith, long, within) in
    rw c.reverse.ensures.items (all_bound c.args.params.now c.args.lists.now
    c.loop-place.bound.items (subst (BoundBefore c.args.params.now c.args.lists.now
    c.loop-place.bound.items) over c.loop-place.invariant))
