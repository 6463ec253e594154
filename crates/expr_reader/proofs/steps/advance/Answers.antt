use Rattle.std.proofs.Common.{◌≡◌, ◌∙◌, ◌∷◌, ap, sym}
use Rattle.expr_reader.specs.View.{frame_of, frames_of}
use Rattle.expr_reader.proofs.ViewLemmas.{frames_of-append}
use Rattle.expr_reader.proofs.ClimbLemmas.{going_at, going_stuck, going_moved, going_kept, going_passed, going_dropped, going_nowhere}
use Rattle.expr_reader.proofs.steps.advance.Goals as goal

pub returns-in-Rejected : goal.returns-in-Rejected
returns-in-Rejected c =
    let e : frames_of c.loop-frame.frames.items ≡ frame_of c.in-Some.frame ∷ frames_of c.pop.new.self.items = ap frames_of c.in-Some.ensures.items ∙ frames_of-append c.pop.new.self.items c.in-Some.frame in
    let g = going_at _ _ _ _ _ _ _ _ _ _ c.loop-frame.invariant e in
    going_stuck _ _ _ _ _ _ _ _ _ _ _ _ _ g (rw c.in-Rejected.is at c.in_ok-along.ensures)

pub returns-in-Consumed : goal.returns-in-Consumed
returns-in-Consumed c =
    let e : frames_of c.loop-frame.frames.items ≡ frame_of c.in-Some.frame ∷ frames_of c.pop.new.self.items = ap frames_of c.in-Some.ensures.items ∙ frames_of-append c.pop.new.self.items c.in-Some.frame in
    let g = going_at _ _ _ _ _ _ _ _ _ _ c.loop-frame.invariant e in
    going_moved _ _ _ _ _ _ _ _ _ _ _ _ _ g (rw c.in-Consumed.is at c.in_ok-along.ensures)

pub loop-frame-preserved-in-Kept : goal.loop-frame-preserved-in-Kept
loop-frame-preserved-in-Kept c =
    let e : frames_of c.loop-frame.frames.items ≡ frame_of c.in-Some.frame ∷ frames_of c.pop.new.self.items = ap frames_of c.in-Some.ensures.items ∙ frames_of-append c.pop.new.self.items c.in-Some.frame in
    let g = going_at _ _ _ _ _ _ _ _ _ _ c.loop-frame.invariant e in
    let w = rw c.in-FrameDone.is at c.in_ok-along.ensures in
    let q = rw (w.1, w.2) at c.in_ok-value-in-FrameDone.ensures in
    let p = going_passed _ _ _ _ _ _ _ _ (frames_of c.pop.new.self.items) (frames_of c.pass_up.new.frames.items) c.in_ok-value-in-FrameDone.value.raw (rw (← q) at (going_kept _ _ _ _ _ _ _ _ _ _ _ _ g w.0)) (rw w.3 at (c.pass_up.ensures.same c.args.language c.args.second c.in_ok-value-in-FrameDone.value.raw)) in
    let h = rw c.in-Kept.is at c.in_ok-give-in-FrameDone.ensures in
    going_at _ _ _ _ _ _ _ _ _ _ p (sym h.0)

pub loop-frame-preserved : goal.loop-frame-preserved
loop-frame-preserved c =
    let e : frames_of c.loop-frame.frames.items ≡ frame_of c.in-Some.frame ∷ frames_of c.pop.new.self.items = ap frames_of c.in-Some.ensures.items ∙ frames_of-append c.pop.new.self.items c.in-Some.frame in
    let g = going_at _ _ _ _ _ _ _ _ _ _ c.loop-frame.invariant e in
    let w = rw c.in-FrameDone.is at c.in_ok-along.ensures in
    let q = rw (w.1, w.2) at c.in_ok-value-in-FrameDone.ensures in
    let p = going_passed _ _ _ _ _ _ _ _ (frames_of c.pop.new.self.items) (frames_of c.pass_up.new.frames.items) c.in_ok-value-in-FrameDone.value.raw (rw (← q) at (going_kept _ _ _ _ _ _ _ _ _ _ _ _ g w.0)) (rw w.3 at (c.pass_up.ensures.same c.args.language c.args.second c.in_ok-value-in-FrameDone.value.raw)) in
    let h = rw c.in-Dropped.is at c.in_ok-give-in-FrameDone.ensures in
    going_at _ _ _ _ _ _ _ _ _ _ (going_dropped _ _ _ _ _ _ _ _ _ _ p h.4) (sym h.0)

pub returns-in-Refused : goal.returns-in-Refused
returns-in-Refused c =
    let e : frames_of c.loop-frame.frames.items ≡ frame_of c.in-Some.frame ∷ frames_of c.pop.new.self.items = ap frames_of c.in-Some.ensures.items ∙ frames_of-append c.pop.new.self.items c.in-Some.frame in
    let g = going_at _ _ _ _ _ _ _ _ _ _ c.loop-frame.invariant e in
    let w = rw c.in-FrameDone.is at c.in_ok-along.ensures in
    let q = rw (w.1, w.2) at c.in_ok-value-in-FrameDone.ensures in
    let p = going_passed _ _ _ _ _ _ _ _ (frames_of c.pop.new.self.items) (frames_of c.pass_up.new.frames.items) c.in_ok-value-in-FrameDone.value.raw (rw (← q) at (going_kept _ _ _ _ _ _ _ _ _ _ _ _ g w.0)) (rw w.3 at (c.pass_up.ensures.same c.args.language c.args.second c.in_ok-value-in-FrameDone.value.raw)) in
    let h = rw c.in-Refused.is at c.in_ok-give-in-FrameDone.ensures in
    going_nowhere _ _ _ _ _ _ _ _ _ _ _ p h.0
