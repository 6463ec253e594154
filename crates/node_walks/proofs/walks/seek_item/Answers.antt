use Rattle.std.proofs.Common.{◌-◌, slice_get, sym, ap, ◌∙◌}
use Rattle.node_walks.specs.Moves.{Moves, given}
use Rattle.node_walks.proofs.MoveLemmas.{one_on}
use Rattle.node_walks.proofs.walks.seek_item.Goals as goal

pub loop-left-preserved : goal.loop-left-preserved
loop-left-preserved g c =
    ap (λ (z : Moves). slice_get (given z) (c.loop-left.left - 1)) c.in_ok-skip.ensures.rest
    ∙ one_on c.loop-left.walk c.loop-left.left c.loop-left-test.true (sym c.in_ok-skip.ensures.some ∙ c.if-not-branch.false) ∙ c.loop-left.invariant
