use Rattle.std.proofs.Common.{List, length, sym, ap, ◌∙◌, arith}
use Rattle.node_walks.specs.Moves.{given}
use Rattle.lazy_seq.specs.Flow.{Flow}
use Rattle.lazy_seq.specs.Leaves.{leaf_moves}
use Rattle.lazy_seq.specs.Shapes.{flow_of}
use Rattle.lazy_seq.specs.Stacks.{stacked, total_weight}
use Rattle.lazy_seq.proofs.PlaceLemmas.{rest_length}
use Rattle.lazy_seq.proofs.StackLemmas.{weight_within}
use Rattle.lazy_seq.proofs.parts.+count_parts.Goals.{in-Leaf+in_ok-count-in-Leaf+in-Some}
use Rattle.lazy_seq.proofs.parts.+count_parts.Goals.{
  in-Parts+in_ok-count_parts-in-Parts+in-Some-sum,
}
use Rattle.lazy_seq.proofs.parts.+count_parts.Goals as goal

pub count_parts-requires : goal.count_parts-requires
count_parts-requires t c =
    let w = weight_within c.args.parts.now c.loop-part.part-index c.part-item.result
    c.loop-part-test.true c.part-item.is in
    let v = ap (λ (z : Flow). z.weight) (ap flow_of (sym c.in-Parts.is) ∙ c.part.view_is) in
    let u = ap total_weight c.as_slice.ensures.value in
    let d = c.decreases in
    (omega arith, tt)

pub returns-in-None : goal.returns-in-None
returns-in-None t c =
    let inv = c.loop-part.invariant.counted in
    let p = c.part-item.result in
    let r = rest_length c.args.parts.now c.loop-part.part-index p c.loop-part-test.true
    c.part-item.is in
    let q = ap (λ (z : Flow). given z.moves) (ap flow_of (sym c.in-Leaf.is) ∙ c.part.view_is) in
    let l = ap length q in
    let n = length (given (leaf_moves c.in-Leaf.leaf)) in
    let s = c.in-None.ensures n c.in_ok-count-in-Leaf.ensures in
    λ less. s (omega arith)

pub returns-in-None-sum : goal.returns-in-None-sum
returns-in-None-sum t c =
    let inv = c.loop-part.invariant.counted in
    let p = c.part-item.result in
    let r = rest_length c.args.parts.now c.loop-part.part-index p c.loop-part-test.true
    c.part-item.is in
    let q = ap (λ (zs : List Flow). given (stacked zs)) c.as_slice.ensures.value
    ∙ ap (λ (z : Flow). given z.moves) (ap flow_of (sym c.in-Parts.is) ∙ c.part.view_is) in
    let l = ap length q in
    let n = length (given (stacked c.as_slice.result.now)) in
    let s = c.in-None-sum.ensures n c.in_ok-count_parts-in-Parts.ensures in
    λ less. s (omega arith)

pub loop-part-preserved : goal.loop-part-preserved
loop-part-preserved t c =
    let inv = c.loop-part.invariant.counted in
    let p = c.part-item.result in
    let r = rest_length c.args.parts.now c.loop-part.part-index p c.loop-part-test.true
    c.part-item.is in
    elim c.match-part.branch [
      | in-Leaf+in_ok-count-in-Leaf+in-Some w ↦
          let q = ap (λ (z : Flow). given z.moves)
          (ap flow_of (sym w.in-Leaf.is) ∙ c.part.view_is) in
          let l = ap length q in
          let s = w.in-Some.ensures (length (given (leaf_moves w.in-Leaf.leaf)))
          w.in_ok-count-in-Leaf.ensures in
          let fits = s.0 in
          let is = s.1 in
          rw w.total-is (record { counted = omega arith; fits = omega arith })
      | in-Parts+in_ok-count_parts-in-Parts+in-Some-sum w ↦
          let q = ap (λ (zs : List Flow). given (stacked zs)) w.as_slice.ensures.value
          ∙ ap (λ (z : Flow). given z.moves)
          (ap flow_of (sym w.in-Parts.is) ∙ c.part.view_is) in
          let l = ap length q in
          let s = w.in-Some-sum.ensures (length (given (stacked w.as_slice.result.now)))
          w.in_ok-count_parts-in-Parts.ensures in
          let fits = s.0 in
          let is = s.1 in
          rw w.total-is (record { counted = omega arith; fits = omega arith })
    ]
