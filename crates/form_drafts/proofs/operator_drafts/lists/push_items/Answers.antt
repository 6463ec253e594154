use Rattle.std.proofs.Common.{◌≤◌, ◌<◌, length, refl, arith}
use Rattle.expr_raws.specs.PathRaws.Forms.{single, said, all_said}
use Rattle.expr_raws.specs.Raws.{form_of}
use Rattle.expr_drafts.proofs.Turns.{start, comma_turn, finish}
use Rattle.form_drafts.proofs.operator_drafts.lists.push_items.Goals as goal

pub loop-left-init : goal.loop-left-init
loop-left-init c = record {
  within = omega arith;
  same = start (form_of c.args.prefixes.now) (all_said single) c.args.items.now c.args.draft.now refl;
}

pub loop-left-preserved : goal.loop-left-preserved
loop-left-preserved c =
    let test = c.loop-left-test.true in
    let positive : 0 < c.loop-left.left = omega arith in
    let within : c.loop-left.left ≤ length c.args.items.now = c.loop-left.invariant.within in
    record {
      within = omega arith;
      same = comma_turn (form_of c.args.prefixes.now) (all_said single) (said single)
          (λ ts. refl) (λ b ts. refl) (λ b d bs ts. refl) c.args.items.now
          c.loop-left.left c.index-items-left.result c.index-items-left.result _ _ _ _
          positive within c.index-items-left.is c.loop-left.invariant.same
          c.in_ok-push_comma.ensures.between c.in_ok-push_comma.ensures.last
          c.in_ok-push_part.ensures;
    }

pub returns : goal.returns
returns c = finish (form_of c.args.prefixes.now) (all_said single) c.args.items.now c.loop-left.left _ _
    c.loop-left-test.false c.loop-left.invariant.same
