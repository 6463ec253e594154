use Rattle.std.proofs.Common.{◌≡◌, ◌++◌, [], ◌∷◌, sym, ◌∙◌}
use Rattle.std.proofs.lemmas.List.{same_from_push}
use Rattle.expr_reader.proofs.ViewLemmas.{frames_of-append}
use Rattle.expr_reader.proofs.fronts.try_below.Goals as goal

pub returns-in-Some : goal.returns-in-Some
returns-in-Some c =
    let e : c.descend.new.frames.items ≡ c.pop.new.self.items ++ c.in-Some.frame ∷ [] = c.in-Some.ensures.items in
    let p : c.push.new.self.items ≡ c.args.frames.now.items ++ c.args.frame ∷ [] = c.in_ok-push.ensures.items in
    let d = (rw c.if-branch.false at c.in_ok-descend.ensures) c.args.second c.starter_of-starter.ensures in
    let s = same_from_push _ _ _ _ (sym e ∙ d.1 ∙ p) in
    let k = rw (p, frames_of-append, c.deep-depth.ensures) at d.0 in
    (k, s.1, s.0)
