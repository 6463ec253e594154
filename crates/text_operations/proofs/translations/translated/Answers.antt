use Rattle.std.proofs.Common.{sym, ◌∙◌}
use Rattle.std.specs.Str.{chars}
use Rattle.xt_names.proofs.MarkLemmas.{map_same}
use Rattle.std.proofs.lemmas.Iterator.{YieldsList-from_chars}
use Rattle.std.proofs.lemmas.Iterator.Consumers.{YieldsList-end}
use Rattle.text_operations.proofs.TranslationLemmas.{translated-nil, translated_turn, translated_done}
use Rattle.text_operations.proofs.translations.translated.Goals as goal

pub loop-c-init : goal.loop-c-init
loop-c-init c = c.new-made.ensures ∙ translated-nil (chars c.args.from.now) (chars c.args.to.now)

pub loop-c-preserved : goal.loop-c-preserved
loop-c-preserved c =
    translated_turn (chars c.args.from.now) (chars c.args.to.now) c.as_slice.result.now c.as_slice-2.result.now c.loop-c.yielded c.loop-c.made _ c.in-Some.c c.partner_in.result c.loop-c.invariant
    (c.as_slice.ensures.value ∙ c.in_ok-from_chars.ensures) (c.as_slice-2.ensures.value ∙ c.in_ok-to_chars.ensures)
    (c.partner_in.ensures ∙ c.in_ok-partners.ensures c.in-Some.c) c.in_ok-push_replaced.ensures

pub returns : goal.returns
returns c =
    let t = YieldsList-end (YieldsList-from_chars c.as_str.result.now c.as_str.utf8 cc) c.loop-c.yielded _ c.loop-c.yielded_by _ _ c.in-None.is c.next.ensures.steps in
    translated_done c.finish.result (chars c.args.from.now) (chars c.args.to.now) c.args.text.now c.loop-c.yielded c.loop-c.made c.loop-c.invariant
    (sym (map_same c.loop-c.yielded) ∙ t.0 ∙ c.as_str.ensures.chars) c.finish.ensures
