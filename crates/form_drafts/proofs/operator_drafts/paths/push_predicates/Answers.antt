use Rattle.std.proofs.Common.{◌≤◌, ◌<◌, length, refl, arith}
use Rattle.std.proofs.Common.{◌∷◌, ◌∙◌, ap, List}
use Rattle.expr_keys.specs.declared.tokens.Token.{Token}
use Rattle.expr_keys.specs.declared.keys.Key.TheVariants as key
use Rattle.expr_keys.specs.declared.tokens.Token.TheVariants as token
use Rattle.expr_raws.specs.PathRaws.Forms.{list, said}
use Rattle.expr_raws.specs.PathRaws.Paths.{predicates}
use Rattle.expr_raws.specs.Raws.{form_of}
use Rattle.expr_drafts.proofs.Turns.{start, turn, finish}
use Rattle.form_drafts.proofs.operator_drafts.paths.push_predicates.Goals as goal

pub loop-left-init : goal.loop-left-init
loop-left-init c = record {
  within = omega arith;
  same = start (form_of c.args.prefixes.now) (predicates) c.args.tests.now c.args.draft.now refl;
}

pub loop-left-preserved : goal.loop-left-preserved
loop-left-preserved c =
    let test = c.loop-left-test.true in
    let positive : 0 < c.loop-left.left = omega arith in
    let within : c.loop-left.left ≤ length c.args.tests.now = c.loop-left.invariant.within in
    record {
      within = omega arith;
      same = turn (form_of c.args.prefixes.now) (predicates) (λ f ts. token.Key key.OpenBracket ∷ said list f (token.Key key.CloseBracket ∷ ts))
          (λ b bs ts. refl) c.args.tests.now
          c.loop-left.left c.index-tests-left.result c.index-tests-left.result _ _ _
          positive within c.index-tests-left.is c.loop-left.invariant.same
          (c.in_ok-push_key-2.ensures ∙ ap (λ (us : List Token). token.Key key.OpenBracket ∷ us)
          (c.in_ok-push_part.ensures ∙ ap (λ (us : List Token). said list
          (form_of c.args.prefixes.now c.index-tests-left.result) us) c.in_ok-push_key.ensures));
    }

pub returns : goal.returns
returns c = finish (form_of c.args.prefixes.now) (predicates) c.args.tests.now c.loop-left.left _ _
    c.loop-left-test.false c.loop-left.invariant.same
