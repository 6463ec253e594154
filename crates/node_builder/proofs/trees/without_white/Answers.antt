use Rattle.std.proofs.Common.{sym, refl, ◌∙◌, ◌≡◌, false}
use Rattle.std.specs.Str.{chars}
use Rattle.xt_names.specs.Marks.{begins_white}
use Rattle.xt_names.proofs.MarkLemmas.{map_same}
use Rattle.std.proofs.lemmas.Iterator.{YieldsList-from_chars}
use Rattle.std.proofs.lemmas.Iterator.Consumers.{YieldsList-end}
use Rattle.node_builder.proofs.TrimLemmas.{has_begun-nil, has_begun-push, trim_same, trim_turn, trim_done}
use Rattle.node_builder.proofs.trees.without_white.Goals as goal

pub returns-then-not-begins_white : goal.returns-then-not-begins_white
returns-then-not-begins_white c =
    let e : begins_white (chars c.args.s.now) ≡ false = cc (c.begins_white.ensures, c.if-not-begins_white.true) in
    trim_same c.make.result (chars c.args.s.now) e c.make.ensures.ok

pub loop-c-init : goal.loop-c-init
loop-c-init c = record { text_is = c.new-text.ensures; begun_is = sym has_begun-nil }

pub loop-c-preserved : goal.loop-c-preserved
loop-c-preserved c = record {
  text_is = trim_turn c.loop-c.yielded c.in-Some.c _ _ c.loop-c.begun _ c.loop-c.invariant.begun_is (cc (c.is_white.ensures)) c.loop-c.invariant.text_is c.in_ok-push_kept.ensures;
  begun_is = rw (has_begun-push c.loop-c.yielded c.in-Some.c, c.loop-c.invariant.begun_is, c.is_white.ensures) refl;
}

pub returns : goal.returns
returns c =
    let t = YieldsList-end (YieldsList-from_chars c.args.s.now c.utf8.s cc) c.loop-c.yielded _ c.loop-c.yielded_by _ _ c.in-None.is c.next.ensures.steps in
    trim_done c.finish.result (chars c.args.s.now) c.loop-c.yielded c.loop-c.text c.loop-c.invariant.text_is (sym (map_same c.loop-c.yielded) ∙ t.0) c.finish.ensures
