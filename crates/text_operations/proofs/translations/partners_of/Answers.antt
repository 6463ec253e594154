use Rattle.std.proofs.Common.{take, sym, refl, ap, ◌∙◌, arith, nat_eq, slice_get}
use Rattle.std.proofs.lemmas.Grind.{common_steps}
use Rattle.std.specs.HashMap.{get}
use Rattle.text_operations.specs.Translations.{partner}
use Rattle.text_operations.proofs.TranslationLemmas.{partner-nil, partner_step, partner_put, partner_kept}
use Rattle.text_operations.proofs.translations.partners_of.Goals as goal
use Rattle.text_operations.proofs.translations.partners_of.Goals.{then-not-contains_key+in_ok-insert, else-not-contains_key}

pub loop-i-init : goal.loop-i-init
loop-i-init c = λ q. grind (arith, common_steps, partner-nil)

pub loop-i-preserved : goal.loop-i-preserved
loop-i-preserved c = λ q.
    let from = c.args.from.now in
    let to = c.args.to.now in
    let k = c.index-from-i.result in
    elim c.if-not-contains_key.branch [
      | then-not-contains_key+in_ok-insert w ↦
          ap (λ m. get nat_eq m q) w.partners-is
          ∙ partner_put (get nat_eq c.loop-i.partners q) _ (partner (take c.loop-i.i from) to q) (get nat_eq c.loop-i.partners k) k q (slice_get to c.loop-i.i)
          (ap (get nat_eq c.loop-i.partners))
          (rw (← w.char_at.ensures) (w.in_ok-insert.ensures.updates.0 q)) (c.loop-i.invariant q) (sym c.contains_key.ensures ∙ w.if-not-contains_key.true)
          ∙ partner_step from to c.loop-i.i q k c.loop-i-test.true c.index-from-i.is
      | else-not-contains_key w ↦
          ap (λ m. get nat_eq m q) w.partners-is
          ∙ partner_kept (get nat_eq c.loop-i.partners q) _ (partner (take c.loop-i.i from) to q) (get nat_eq c.loop-i.partners k) k q (slice_get to c.loop-i.i)
          (ap (get nat_eq c.loop-i.partners))
          refl (c.loop-i.invariant q) (sym c.contains_key.ensures ∙ w.if-not-contains_key.false)
          ∙ partner_step from to c.loop-i.i q k c.loop-i-test.true c.index-from-i.is
    ]
