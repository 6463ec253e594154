use Rattle.std.proofs.Common.{◌≤◌, ◌<◌, length, refl, arith}
use Rattle.expr_raws.specs.PathRaws.Forms.{single, said}
use Rattle.expr_raws.specs.ControlRaws.Bindings.{keys_tokens, way_tokens}
use Rattle.expr_drafts.specs.ExprPlaces.Forms.{order_form}
use Rattle.expr_drafts.proofs.Turns.{start, comma_turn, finish}
use Rattle.form_drafts.proofs.control_drafts.flows.push_keys.Goals as goal

pub loop-left-init : goal.loop-left-init
loop-left-init c = record {
  within = omega arith;
  same = start (order_form c.args.prefixes.now) (keys_tokens) c.args.orders.now c.args.draft.now refl;
}

pub loop-left-preserved : goal.loop-left-preserved
loop-left-preserved c =
    let test = c.loop-left-test.true in
    let positive : 0 < c.loop-left.left = omega arith in
    let within : c.loop-left.left ≤ length c.args.orders.now = c.loop-left.invariant.within in
    record {
      within = omega arith;
      same = comma_turn (order_form c.args.prefixes.now) (keys_tokens) (λ o ts. said single o.key (way_tokens o.descending ts))
          (λ ts. refl) (λ b ts. refl) (λ b d bs ts. refl) c.args.orders.now
          c.loop-left.left c.index-orders-left.result c.index-orders-left.result _ _ _ _
          positive within c.index-orders-left.is c.loop-left.invariant.same
          c.in_ok-push_comma.ensures.between c.in_ok-push_comma.ensures.last
          c.in_ok-push_order.ensures;
    }

pub returns : goal.returns
returns c = finish (order_form c.args.prefixes.now) (keys_tokens) c.args.orders.now c.loop-left.left _ _
    c.loop-left-test.false c.loop-left.invariant.same
