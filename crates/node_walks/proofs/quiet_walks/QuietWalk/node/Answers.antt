use Rattle.std.proofs.Common.{◌≡◌, Bool, true, Option, IfOk, sym, ap, ◌∙◌, subst}
use Rattle.std.specs.Option.{option_map}
use Rattle.xdm_items.specs.declared.items.Item.{Item}
use Rattle.xdm_items.specs.declared.items.Item.TheVariants.{Node}
use Rattle.quiet_eval.specs.QuietMeaning.Paths.{keeps}
use Rattle.node_walks.specs.Moves.{standing}
use Rattle.node_walks.specs.Quiet.{Sifting}
use Rattle.node_walks.specs.Sift.{quiet_moves}
use Rattle.node_walks.proofs.SiftLemmas.{kept_first}
use Rattle.node_walks.proofs.quiet_walks.QuietWalk.node.Goals as goal

pub returns : goal.returns
unfolding quiet_moves
returns c =
    let t = keeps c.self.inside.sieve.tests in
    let s = c.self.inside.sieve.seen.items in
    let w = c.self.inside.walk in
    let k : c.self.inside.kept ≡ true = ap (λ (z : Sifting). z.kept) c.self.view_is ∙ c.requires in
    let e = sym (kept_first t s w (c.self.invariant.stands k)).1 ∙ ap (λ (b : Bool). standing (quiet_moves b t s w)) (sym k) ∙ ap (λ (z : Sifting). standing z.moves) c.self.view_is in
    subst (λ (y : Option Item). IfOk c.node.result (λ node. option_map Node node ≡ y)) e c.node.ensures
