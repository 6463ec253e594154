use Rattle.std.proofs.Common.{ℕ, ◌+◌, ◌<◌, ◌≤◌, List, set, get_or, length, sym, ap, ap₂, ◌∙◌, arith}
use Rattle.node_axes.proofs.StepWalks.SiftLemmas.{raised_none, not_raised, raised_more, raised_all}
use Rattle.node_axes.proofs.step_walks.positions.raise.Goals as goal

pub loop-place-init : goal.loop-place-init
loop-place-init c = record { counted = sym (raised_none _); within = omega arith }

pub overflow_add-seen : goal.overflow_add-seen
overflow_add-seen c =
    let e = ap (λ xs. get_or xs c.loop-place.place 0) c.loop-place.invariant.counted ∙ not_raised c.loop-place.place c.args.seen.now in
    let h = c.requires c.loop-place.place c.loop-place-test.true in
    omega arith

pub loop-place-preserved : goal.loop-place-preserved
loop-place-preserved c =
    let e = c.loop-place.invariant.counted in
    let f = ap (λ xs. get_or xs c.loop-place.place 0) e ∙ not_raised c.loop-place.place c.args.seen.now in
    let l : c.loop-place.place < length c.args.seen.now = omega arith in
    record {
      counted = ap₂ (λ (xs : List ℕ) (v : ℕ). set xs c.loop-place.place (v + 1)) e f ∙ raised_more c.loop-place.place c.args.seen.now l;
      within = omega arith;
    }

pub returns-else-place-seen : goal.returns-else-place-seen
returns-else-place-seen c =
    let h : length c.args.seen.now ≤ c.loop-place.place = omega arith in
    let g : length c.args.seen.now ≤ c.args.count = omega arith in
    c.loop-place.invariant.counted ∙ raised_all c.loop-place.place c.args.count c.args.seen.now h g
