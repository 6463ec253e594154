use Rattle.std.proofs.Common.{length, sym, ap, ◌∙◌, arith}
use Rattle.node_walks.specs.Moves.{Moves, given}
use Rattle.node_walks.proofs.MoveLemmas.{one_less}
use Rattle.node_walks.proofs.walks.count_items.Goals as goal

pub loop-steps-smaller : goal.loop-steps-smaller
loop-steps-smaller g c =
    let o = one_less c.loop-steps.walk (sym c.in_ok-skip.ensures.some ∙ c.if-branch.true) in
    let e = ap (λ (z : Moves). length (given z)) c.in_ok-skip.ensures.rest in omega arith

pub loop-steps-preserved : goal.loop-steps-preserved
loop-steps-preserved g c =
    let o = one_less c.loop-steps.walk (sym c.in_ok-skip.ensures.some ∙ c.if-branch.true) in
    let e = ap (λ (z : Moves). length (given z)) c.in_ok-skip.ensures.rest in
    let i = c.loop-steps.invariant.counted in
    let l = c.loop-steps.invariant.fits in
    let f = c.if-count-eq9223372036854775807.false in
    record { counted = omega arith; fits = omega arith }
