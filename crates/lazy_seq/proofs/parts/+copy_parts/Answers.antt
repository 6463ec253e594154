use Rattle.std.proofs.Common.{sym, ap, ◌∙◌, arith}
use Rattle.lazy_seq.specs.Flow.{Flow}
use Rattle.lazy_seq.specs.Shapes.{flow_of}
use Rattle.lazy_seq.specs.Stacks.{total_weight}
use Rattle.lazy_seq.proofs.StackLemmas.{weight_within}
use Rattle.lazy_seq.proofs.parts.+copy_parts.Goals as goal

pub copy_parts-requires : goal.copy_parts-requires
copy_parts-requires t c =
    let w = weight_within c.args.parts.now c.loop-part.part-index c.part-item.result
    c.loop-part-test.true c.part-item.is in
    let v = ap (λ (z : Flow). z.weight) (ap flow_of (sym c.in-Parts.is) ∙ c.part.view_is) in
    let u = ap total_weight c.as_slice.ensures.value in
    let d = c.decreases in
    (omega arith, tt)
