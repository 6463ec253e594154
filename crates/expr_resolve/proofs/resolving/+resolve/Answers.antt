use Rattle.std.proofs.Common.{◌+◌, ◌==◌, ◌<◌, ◌∙◌, length, ap, arith}
use Rattle.std.proofs.lemmas.Result.{err_from_is_err_and}
use Rattle.expr_resolve.specs.Folds.{value_of, broken_of}
use Rattle.expr_resolve.proofs.Follow.{made_first, made_step, made_exit}
use Rattle.expr_resolve.proofs.resolving.+resolve.Goals as goal

pub parts_onward-loop-raw-init : goal.parts_onward-loop-raw-init
parts_onward-loop-raw-init t c = made_first _ _ _ _
    (c.of_vec-made.ensures ∙ c.in_ok-with_capacity.ensures.items)

pub parts_onward-loop-raw-preserved : goal.parts_onward-loop-raw-preserved
parts_onward-loop-raw-preserved t c =
    let lt : c.loop-raw.raw-index < length c.args.raws.now = omega arith in
    let last = ap (λ n. n + 1 == length c.args.raws.now) c.len.ensures in
    let h = c.in_ok-made.ensures (broken_of c.args.s.now c.raw-item.result) (value_of c.args.s.now c.raw-item.result) c.part_of-part.ensures in
    made_step c.args.s.now c.args.production c.args.raws.now c.loop-raw.made _ c.loop-raw.raw-index c.raw-item.result c.raw-item.result _ c.loop-raw.invariant lt c.raw-item.is last h.0 h.1

pub parts_onward-returns-in_err-made : goal.parts_onward-returns-in_err-made
parts_onward-returns-in_err-made t c =
    let p = err_from_is_err_and c.from_residual-in_err-made.result c.from_residual-in_err-made.ensures.1 in
    let lt : c.loop-raw.raw-index < length c.args.raws.now = omega arith in
    let last = ap (λ n. n + 1 == length c.args.raws.now) c.len.ensures in
    let h = c.in_err-made.ensures (broken_of c.args.s.now c.raw-item.result) (value_of c.args.s.now c.raw-item.result) c.part_of-part.ensures in
    rw (p.1, p.2) (made_exit c.args.s.now c.args.production c.args.raws.now c.loop-raw.made c.loop-raw.raw-index c.raw-item.result c.raw-item.result _ _ c.loop-raw.invariant lt c.raw-item.is last h)
