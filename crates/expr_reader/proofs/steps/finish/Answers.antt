use Rattle.std.proofs.Common.{◌≡◌, ◌∙◌, ◌∷◌, ap, sym}
use Rattle.expr_reader.specs.View.{frame_of, frames_of}
use Rattle.expr_reader.proofs.ViewLemmas.{frames_of-append}
use Rattle.expr_reader.proofs.ClimbLemmas.{ending_at, ending_stuck, ending_dropped}
use Rattle.expr_reader.proofs.steps.finish.Goals as goal

pub returns-then-not-skips : goal.returns-then-not-skips
returns-then-not-skips c =
    let e : frames_of c.loop-frame.frames.items ≡ frame_of c.in-Some.frame ∷ frames_of c.pop.new.self.items = ap frames_of c.in-Some.ensures.items ∙ frames_of-append c.pop.new.self.items c.in-Some.frame in
    let g = ending_at _ _ _ _ _ _ _ c.loop-frame.invariant e in
    ending_stuck _ _ _ _ _ _ _ _ _ g (sym c.skips.ensures ∙ c.if-not-skips.true)

pub loop-frame-preserved : goal.loop-frame-preserved
loop-frame-preserved c =
    let e : frames_of c.loop-frame.frames.items ≡ frame_of c.in-Some.frame ∷ frames_of c.pop.new.self.items = ap frames_of c.in-Some.ensures.items ∙ frames_of-append c.pop.new.self.items c.in-Some.frame in
    let g = ending_at _ _ _ _ _ _ _ c.loop-frame.invariant e in
    let h = rw c.in-Dropped.is at c.in_ok-give.ensures in
    ending_at _ _ _ _ _ _ _ (ending_dropped _ _ _ _ _ _ _ _ _ g (sym c.skips.ensures ∙ c.if-not-skips.false) h.3 (rw c.in_ok-value.ensures at h.4)) (sym h.0)
