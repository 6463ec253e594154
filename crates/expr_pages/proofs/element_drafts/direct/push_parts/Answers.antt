use Rattle.std.proofs.Common.{◌≤◌, ◌<◌, length, refl, arith}
use Rattle.expr_raws.specs.ElementRaws.Direct.{part_tokens, parts_tokens}
use Rattle.expr_drafts.specs.ExprPlaces.Forms.{part_form}
use Rattle.expr_drafts.proofs.Turns.{start, turn, finish}
use Rattle.expr_pages.proofs.element_drafts.direct.push_parts.Goals as goal

pub loop-left-init : goal.loop-left-init
loop-left-init c = record {
  within = omega arith;
  same = start (part_form c.args.prefixes.now) (parts_tokens c.args.value) c.args.parts.now c.args.draft.now refl;
}

pub loop-left-preserved : goal.loop-left-preserved
loop-left-preserved c =
    let test = c.loop-left-test.true in
    let positive : 0 < c.loop-left.left = omega arith in
    let within : c.loop-left.left ≤ length c.args.parts.now = c.loop-left.invariant.within in
    record {
      within = omega arith;
      same = turn (part_form c.args.prefixes.now) (parts_tokens c.args.value) (part_tokens c.args.value)
          (λ b bs ts. refl) c.args.parts.now
          c.loop-left.left c.index-parts-left.result c.index-parts-left.result _ _ _
          positive within c.index-parts-left.is c.loop-left.invariant.same
          c.in_ok-push_part.ensures;
    }

pub returns : goal.returns
returns c = finish (part_form c.args.prefixes.now) (parts_tokens c.args.value) c.args.parts.now c.loop-left.left _ _
    c.loop-left-test.false c.loop-left.invariant.same
