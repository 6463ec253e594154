use Rattle.std.proofs.Common.{◌≤◌, ◌<◌, length, refl, arith}
use Rattle.expr_raws.specs.ElementRaws.Direct.{attrs_tokens}
use Rattle.expr_drafts.specs.ExprPlaces.Forms.{attr_form}
use Rattle.expr_pages.specs.ElementDrafts.Attributes.{pair_tokens}
use Rattle.expr_drafts.proofs.Turns.{start, turn, finish}
use Rattle.expr_pages.proofs.element_drafts.direct.push_attrs.Goals as goal

pub loop-left-init : goal.loop-left-init
loop-left-init c = record {
  within = omega arith;
  same = start (attr_form c.args.prefixes.now) (attrs_tokens) c.args.attrs.now c.args.draft.now refl;
}

pub loop-left-preserved : goal.loop-left-preserved
loop-left-preserved c =
    let test = c.loop-left-test.true in
    let positive : 0 < c.loop-left.left = omega arith in
    let within : c.loop-left.left ≤ length c.args.attrs.now = c.loop-left.invariant.within in
    record {
      within = omega arith;
      same = turn (attr_form c.args.prefixes.now) (attrs_tokens) (pair_tokens)
          (λ b bs ts. refl) c.args.attrs.now
          c.loop-left.left c.index-attrs-left.result c.index-attrs-left.result _ _ _
          positive within c.index-attrs-left.is c.loop-left.invariant.same
          c.in_ok-push_attr.ensures;
    }

pub returns : goal.returns
returns c = finish (attr_form c.args.prefixes.now) (attrs_tokens) c.args.attrs.now c.loop-left.left _ _
    c.loop-left-test.false c.loop-left.invariant.same
