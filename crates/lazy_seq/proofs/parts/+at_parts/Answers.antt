use Rattle.std.proofs.Common.{◌≡◌, ◌<◌, ◌-◌, List, Option, length, slice_get, sym, ap, subst, ◌∙◌}
use Rattle.std.proofs.Common.{arith}
use Rattle.std.specs.Result.{IfOk}
use Rattle.xdm_items.specs.declared.items.Item.{Item}
use Rattle.node_walks.specs.Moves.{given}
use Rattle.lazy_seq.specs.Flow.{Flow}
use Rattle.lazy_seq.specs.Leaves.{leaf_moves}
use Rattle.lazy_seq.specs.Shapes.{flow_of}
use Rattle.lazy_seq.specs.Stacks.{stacked, total_weight}
use Rattle.lazy_seq.proofs.PlaceLemmas.{past_top, within_top}
use Rattle.lazy_seq.proofs.StackLemmas.{weight_within}
use Rattle.lazy_seq.proofs.parts.+at_parts.Goals as goal

pub loop-end-preserved-in-Some : goal.loop-end-preserved-in-Some
loop-end-preserved-in-Some t c =
    let test = c.loop-end-test.true in
    let within = c.loop-end.invariant.within in
    let fits = c.loop-end.invariant.fits in
    let p = c.index-parts-end.result in
    let q = ap (λ (z : Flow). given z.moves) (ap flow_of (sym c.in-Leaf.is) ∙ c.part.view_is) in
    let l = ap length q in
    let n = length (given (leaf_moves c.in-Leaf.leaf)) in
    let counted = c.in_ok-count-in-Leaf.ensures in
    let s = c.in-Some.ensures n counted in
    record {
      within = omega arith;
      fits = omega arith;
      found = past_top c.args.parts.now c.loop-end.end p c.loop-end.left c.in-Some.more
          (slice_get (given (stacked c.args.parts.now)) c.args.place) (omega arith) within
          c.index-parts-end.is (omega arith) c.loop-end.invariant.found;
    }

pub returns-in-None : goal.returns-in-None
returns-in-None t c =
    let test = c.loop-end-test.true in
    let within = c.loop-end.invariant.within in
    let fits = c.loop-end.invariant.fits in
    let p = c.index-parts-end.result in
    let q = ap (λ (z : Flow). given z.moves) (ap flow_of (sym c.in-Leaf.is) ∙ c.part.view_is) in
    let l = ap length q in
    let n = length (given (leaf_moves c.in-Leaf.leaf)) in
    let counted = c.in_ok-count-in-Leaf.ensures in
    let s = c.in-None.ensures n counted in
    let w = within_top c.args.parts.now c.loop-end.end p c.loop-end.left
    (slice_get (given (stacked c.args.parts.now)) c.args.place) (omega arith) within
    c.index-parts-end.is (omega arith) c.loop-end.invariant.found in
    subst (λ (y : Option Item). IfOk c.at.result (λ item. item ≡ y))
    (ap (λ (zs : List Item). slice_get zs c.loop-end.left) q ∙ w) c.at.ensures

pub loop-end-preserved : goal.loop-end-preserved
loop-end-preserved t c =
    let test = c.loop-end-test.true in
    let within = c.loop-end.invariant.within in
    let fits = c.loop-end.invariant.fits in
    let p = c.index-parts-end.result in
    let q = ap (λ (zs : List Flow). given (stacked zs)) c.as_slice.ensures.value
    ∙ ap (λ (z : Flow). given z.moves) (ap flow_of (sym c.in-Parts.is) ∙ c.part.view_is) in
    let l = ap length q in
    let n = length (given (stacked c.as_slice.result.now)) in
    let counted = c.in_ok-count_parts-in-Parts.ensures in
    let s = c.in-Some-past.ensures n counted in
    record {
      within = omega arith;
      fits = omega arith;
      found = past_top c.args.parts.now c.loop-end.end p c.loop-end.left c.in-Some-past.more
          (slice_get (given (stacked c.args.parts.now)) c.args.place) (omega arith) within
          c.index-parts-end.is (omega arith) c.loop-end.invariant.found;
    }

pub returns-in-None-past : goal.returns-in-None-past
returns-in-None-past t c =
    let test = c.loop-end-test.true in
    let within = c.loop-end.invariant.within in
    let fits = c.loop-end.invariant.fits in
    let p = c.index-parts-end.result in
    let q = ap (λ (zs : List Flow). given (stacked zs)) c.as_slice.ensures.value
    ∙ ap (λ (z : Flow). given z.moves) (ap flow_of (sym c.in-Parts.is) ∙ c.part.view_is) in
    let l = ap length q in
    let n = length (given (stacked c.as_slice.result.now)) in
    let counted = c.in_ok-count_parts-in-Parts.ensures in
    let s = c.in-None-past.ensures n counted in
    let w = within_top c.args.parts.now c.loop-end.end p c.loop-end.left
    (slice_get (given (stacked c.args.parts.now)) c.args.place) (omega arith) within
    c.index-parts-end.is (omega arith) c.loop-end.invariant.found in
    subst (λ (y : Option Item). IfOk c.at_parts.result (λ item. item ≡ y))
    (ap (λ (zs : List Item). slice_get zs c.loop-end.left)
    (ap (λ (zs : List Flow). given (stacked zs)) (c.as_slice-in-None-past.ensures.value
    ∙ sym c.as_slice.ensures.value) ∙ q) ∙ w) c.at_parts.ensures

pub at_parts-requires : goal.at_parts-requires
at_parts-requires t c =
    let test = c.loop-end-test.true in
    let within = c.loop-end.invariant.within in
    let i : c.loop-end.end - 1 < length c.args.parts.now = omega arith in
    let w = weight_within c.args.parts.now (c.loop-end.end - 1) c.index-parts-end.result i
    c.index-parts-end.is in
    let v = ap (λ (z : Flow). z.weight) (ap flow_of (sym c.in-Parts.is) ∙ c.part.view_is) in
    let u = ap total_weight c.as_slice-in-None-past.ensures.value in
    let d = c.decreases in
    (omega arith, c.loop-end.invariant.fits)
