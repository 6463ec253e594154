use Rattle.std.proofs.Common.{◌≤◌, ◌<◌, length, refl, arith}
use Rattle.std.proofs.Common.{None}
use Rattle.expr_keys.specs.declared.keys.Key.TheVariants as key
use Rattle.expr_raws.specs.ControlRaws.Bindings.{bind_tokens, binds_tokens}
use Rattle.expr_drafts.specs.ExprPlaces.Forms.{bind_form}
use Rattle.expr_drafts.proofs.Turns.{start, comma_turn, finish}
use Rattle.form_drafts.proofs.control_drafts.control.push_binds.Goals as goal

pub loop-left-init : goal.loop-left-init
loop-left-init c = record {
  within = omega arith;
  same = start (bind_form c.args.prefixes.now) (binds_tokens) c.args.binds.now c.args.draft.now refl;
}

pub loop-left-preserved : goal.loop-left-preserved
loop-left-preserved c =
    let test = c.loop-left-test.true in
    let positive : 0 < c.loop-left.left = omega arith in
    let within : c.loop-left.left ≤ length c.args.binds.now = c.loop-left.invariant.within in
    record {
      within = omega arith;
      same = comma_turn (bind_form c.args.prefixes.now) (binds_tokens) (bind_tokens None key.InWord)
          (λ ts. refl) (λ b ts. refl) (λ b d bs ts. refl) c.args.binds.now
          c.loop-left.left c.index-binds-left.result c.index-binds-left.result _ _ _ _
          positive within c.index-binds-left.is c.loop-left.invariant.same
          c.in_ok-push_comma.ensures.between c.in_ok-push_comma.ensures.last
          c.in_ok-push_bind.ensures;
    }

pub returns : goal.returns
returns c = finish (bind_form c.args.prefixes.now) (binds_tokens) c.args.binds.now c.loop-left.left _ _
    c.loop-left-test.false c.loop-left.invariant.same
