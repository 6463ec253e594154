use Rattle.std.proofs.Common.{◌≡◌, List, [], ◌++◌, take, IfOk, length, ap, subst, ◌∙◌, pos, ◌+ℤ◌}
use Rattle.std.specs.Prelude.{min}
use Rattle.std.proofs.lemmas.List.{take_rest}
use Rattle.xdm_items.specs.declared.items.Item.{Item}
use Rattle.item_functions.specs.SequenceFunctions.Positions.{before}
use Rattle.item_functions.proofs.SequenceFunctions.PositionLemmas.{without}
use Rattle.item_functions.proofs.SequenceFunctions.TestLemmas.{through, through_next}
use Rattle.item_functions.proofs.sequence_functions.positions.remove.Goals as goal

pub returns : goal.returns
returns c =
    let items = c.args.items.now in
    let first = c.before-first.result in
    let next = c.before-next.result in
    let here : first ≡ min (before c.args.position) (length items) =
    c.before-first.ensures ∙ ap (λ z. min (before z) (length items)) (through c.args.position c.from.result c.ranges.position c.from.ensures) in
    let after : next ≡ min (before (c.args.position +ℤ pos 1)) (length items) =
    c.before-next.ensures ∙ ap (λ z. min (before z) (length items)) (through_next c.args.position c.from-2.result c.ranges.position c.from-2.ensures) in
    let made = ap (λ (b : List Item). (take first items ++ []) ++ b) (take_rest items next) ∙ without items c.args.position first next here after in
    subst (λ (l : List Item). IfOk c.joined.result (λ p. p ≡ l)) made c.joined.ensures
