use Rattle.std.proofs.Common.{◌≡◌, List, IfOk, length, ap, subst, ◌∙◌, ◌+ℤ◌}
use Rattle.std.specs.Prelude.{min}
use Rattle.xdm_items.specs.declared.items.Item.{Item}
use Rattle.item_functions.specs.SequenceFunctions.Positions.{before}
use Rattle.item_functions.proofs.SequenceFunctions.PositionLemmas.{part, no_part}
use Rattle.item_functions.proofs.SequenceFunctions.TestLemmas.{through, through_sum}
use Rattle.item_functions.proofs.sequence_functions.positions.subsequence.Goals as goal

pub returns-then-first-end : goal.returns-then-first-end
returns-then-first-end c =
    let items = c.args.items.now in
    let first = c.before-first.result in
    let stop = c.before-end.result in
    let low : first ≡ min (before c.args.start) (length items) =
    c.before-first.ensures ∙ ap (λ z. min (before z) (length items)) (through c.args.start c.from.result c.ranges.start c.from.ensures) in
    let high : stop ≡ min (before (c.args.start +ℤ c.args.length)) (length items) =
    c.before-end.ensures ∙ ap (λ z. min (before z) (length items)) (through_sum c.args.start c.args.length c.from-2.result c.from-3.result c.ranges.start c.ranges.length c.from-2.ensures c.from-3.ensures) in
    subst (λ (l : List Item). IfOk c.copied.result (λ p. p ≡ l)) (part items c.args.start c.args.length first stop low high c.if-first-end.true) c.copied.ensures

pub returns-else-first-end : goal.returns-else-first-end
returns-else-first-end c =
    let items = c.args.items.now in
    let first = c.before-first.result in
    let stop = c.before-end.result in
    let low : first ≡ min (before c.args.start) (length items) =
    c.before-first.ensures ∙ ap (λ z. min (before z) (length items)) (through c.args.start c.from.result c.ranges.start c.from.ensures) in
    let high : stop ≡ min (before (c.args.start +ℤ c.args.length)) (length items) =
    c.before-end.ensures ∙ ap (λ z. min (before z) (length items)) (through_sum c.args.start c.args.length c.from-2.result c.from-3.result c.ranges.start c.ranges.length c.from-2.ensures c.from-3.ensures) in
    c.new.ensures ∙ no_part items c.args.start c.args.length first stop low high c.if-first-end.false
