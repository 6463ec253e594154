use Rattle.std.proofs.Common.{length, ◌==◌, ◌++◌, ◌∷◌, [], refl, sym, subst, ◌∙◌, ap, min, arith}
use Rattle.expr_grammar.specs.ExprNest.Held.{held}
use Rattle.expr_grammar.specs.ExprNest.Measures.{widest}
use Rattle.expr_reader.specs.Counts.{SameCount}
use Rattle.expr_reader.proofs.CapLemmas.{part_is_dropped, part_is_kept}
use Rattle.expr_reader.proofs.parts.with_value.Goals as goal

pub returns-then-counted-from : goal.returns-then-counted-from
returns-then-counted-from c =
    let x = c.min-more.ensures ∙ ap (λ z. min z 70000) c.with_part.ensures.count in
    let y = c.min-widest.ensures ∙ ap (λ z. min z 70000) c.max.ensures in
    let d = c.is_empty-alone.ensures ∙ ap (λ ks. length ks == 0) c.as_slice.ensures.value in (
      refl,
      part_is_dropped _ _ _ _ _ _ _ _ _ _ _ _ _ c.args.frame.counted
          c.args.frame.counted_within c.args.value.counted c.args.value.counted_within (
            x,
            y,
            d,
            c.counted.ensures,
            omega arith,
          ) (omega arith),
    )

pub invariant_of-result-2 : goal.invariant_of-result-2
invariant_of-result-2 c =
    let x = c.min-more.ensures ∙ ap (λ z. min z 70000) c.with_part.ensures.count in
    let y = c.min-widest.ensures ∙ ap (λ z. min z 70000) c.max.ensures in
    let d = c.is_empty-alone.ensures ∙ ap (λ ks. length ks == 0) c.as_slice.ensures.value in
    let k = part_is_kept c.args.frame.production c.args.frame.kids.items c.args.value.raw
    c.args.frame.nest c.args.frame.within c.args.value.levels c.args.value.within
    c.min-more.result c.min-widest.result c.args.limit c.counted.result c.args.measure
    c.is_empty-alone.result c.args.frame.counted c.args.frame.counted_within
    c.args.value.counted c.args.value.counted_within (x, y, d, c.counted.ensures, omega arith)
    (omega arith) in
    let same = c.in_ok-push.ensures.items ∙ ap (λ ks. ks ++ c.args.value.raw ∷ []) c.make_room.ensures in
    record {
      counted = subst (λ ks. SameCount c.min-more.result (held c.args.frame.production ks)) (sym
          same) k.0;
      counted_within = subst (λ ks. SameCount c.min-widest.result (widest ks)) (sym same) k.1;
      small = omega arith;
      small_within = omega arith;
    }
