use Rattle.std.proofs.Common.{◌≡◌, ◌≤◌, ◌<◌, ℕ, drop, map, length, refl, arith}
use Rattle.std.proofs.Common.{◌∷◌, ◌∙◌, ap, List}
use Rattle.expr_keys.specs.declared.tokens.Token.{Token}
use Rattle.expr_keys.specs.declared.tokens.Token.TheVariants as token
use Rattle.expr_raws.specs.PathRaws.Forms.{below, said}
use Rattle.expr_raws.specs.ControlRaws.Operators.{tails}
use Rattle.expr_raws.specs.Raws.{form_of}
use Rattle.expr_drafts.proofs.Turns.{start, turn}
use Rattle.form_drafts.proofs.operator_drafts.lists.push_tails.Goals as goal

pub loop-left-init : goal.loop-left-init
loop-left-init c = record {
  some = c.requires;
  within = omega arith;
  same = start (form_of c.args.prefixes.now) (tails c.args.level c.args.key) c.args.items.now c.args.draft.now refl;
}

pub loop-left-preserved : goal.loop-left-preserved
loop-left-preserved c =
    let test = c.loop-left-test.true in
    let positive : 0 < c.loop-left.left = omega arith in
    let within : c.loop-left.left ≤ length c.args.items.now = c.loop-left.invariant.within in
    record {
      some = omega arith;
      within = omega arith;
      same = turn (form_of c.args.prefixes.now) (tails c.args.level c.args.key) (λ f ts. token.Key c.args.key ∷ said (below c.args.level) f ts)
          (λ b bs ts. refl) c.args.items.now
          c.loop-left.left c.index-items-left.result c.index-items-left.result _ _ _
          positive within c.index-items-left.is c.loop-left.invariant.same
          (c.in_ok-push_key.ensures ∙ ap (λ (us : List Token). token.Key c.args.key ∷ us) (c.in_ok-push_part.ensures
          ∙ ap (λ (n : ℕ). said n (form_of c.args.prefixes.now c.index-items-left.result) c.loop-left.draft)
          c.tight.ensures));
    }

pub returns : goal.returns
returns c =
    let test = c.loop-left-test.false in
    let some = c.loop-left.invariant.some in
    let one : c.loop-left.left ≡ 1 = omega arith in
    c.loop-left.invariant.same ∙ ap (λ (n : ℕ). tails c.args.level c.args.key
    (map (form_of c.args.prefixes.now) (drop n c.args.items.now)) c.args.draft.now) one
