use Rattle.std.proofs.Common.{sym, ◌∙◌, false}
use Rattle.xt_names.proofs.MarkLemmas.{map_same}
use Rattle.std.proofs.lemmas.Iterator.{YieldsList-from_chars}
use Rattle.std.proofs.lemmas.Iterator.Consumers.{YieldsList-end}
use Rattle.text_operations.proofs.SpaceLemmas.{collapsed-nil, white_before-nil, white_before-push, made_normal, spaced_turn}
use Rattle.text_operations.proofs.spaces.normalized.Goals as goal

pub loop-c-init : goal.loop-c-init
loop-c-init c = record { made_is = c.new-made.ensures ∙ collapsed-nil; after_is = white_before-nil }

pub loop-c-preserved : goal.loop-c-preserved
loop-c-preserved c = record {
  made_is = spaced_turn c.loop-c.yielded c.in-Some.c c.loop-c.made _ c.loop-c.after_white c.loop-c.invariant.made_is c.loop-c.invariant.after_is c.in_ok-push_spaced.ensures;
  after_is = c.is_white-after_white.ensures ∙ sym (white_before-push false c.loop-c.yielded c.in-Some.c);
}

pub returns : goal.returns
returns c =
    let t = YieldsList-end (YieldsList-from_chars c.trimmed.result.now c.trimmed.utf8 cc) c.loop-c.yielded _ c.loop-c.yielded_by _ _ c.in-None.is c.next.ensures.steps in
    made_normal c.finish.result c.args.text.now c.loop-c.yielded c.loop-c.made _ c.loop-c.invariant.made_is
    (sym (map_same c.loop-c.yielded) ∙ t.0 ∙ c.trimmed.ensures) c.as_str.ensures.chars c.finish.ensures
