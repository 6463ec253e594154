use Rattle.std.proofs.Common.{◌≡◌, Bool, true, false, sym, ap, ◌∙◌}
use Rattle.quiet_eval.specs.QuietMeaning.Paths.{keeps}
use Rattle.node_walks.specs.Moves.{Moves, passed}
use Rattle.node_walks.specs.Quiet.{Sifting}
use Rattle.node_walks.specs.Sift.{quiet_moves}
use Rattle.node_walks.proofs.SiftLemmas.{kept_passed}
use Rattle.node_walks.proofs.quiet_walks.QuietWalk.pass.Goals as goal

pub returns : goal.returns
unfolding quiet_moves
returns c =
    let s = c.self.inside.sieve in
    let w = c.self.inside.walk in
    let k : c.self.inside.kept ≡ true = ap (λ (z : Sifting). z.kept) c.self.view_is ∙ c.requires in
    ap (λ (m : Moves). quiet_moves false (keeps s.tests) s.seen.items m) c.pass.ensures
    ∙ kept_passed (keeps s.tests) s.seen.items w (c.self.invariant.stands k)
    ∙ ap (λ (b : Bool). passed (quiet_moves b (keeps s.tests) s.seen.items w)) (sym k)
    ∙ ap (λ (z : Sifting). passed z.moves) c.self.view_is
