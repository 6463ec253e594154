use Rattle.std.proofs.Common.{ap, sym, ◌∙◌, ◌∷◌}
use Rattle.expr_terms.specs.Choices.{in_unaries}
use Rattle.expr_reader.specs.View.{frames_of}
use Rattle.expr_reader.proofs.ViewLemmas.{frames_of-append, level_front}
use Rattle.expr_reader.proofs.fronts.open_level.Goals as goal

pub returns-in_ok-push-in-Some : goal.returns-in_ok-push-in-Some
returns-in_ok-push-in-Some c = λ l t.
    let made = c.in_ok-push-in-Some.ensures.items in
    let held = ap frames_of made ∙ frames_of-append c.args.frames.now.items c.opened-frame.result
    ∙ ap (λ f. f ∷ frames_of c.args.frames.now.items) c.opened-frame.ensures.frame in (
      (_, made),
      λ go. rw (held, c.tighter.ensures) (level_front go l t (frames_of c.args.frames.now.items)
          c.args.level (in_unaries c.args.starter) _ (sym c.pick.ensures ∙ c.in-Some.is)),
    )
