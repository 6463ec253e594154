use Rattle.std.proofs.Common.{◌≡◌, List, IfOk, length, ap, subst, ◌∙◌}
use Rattle.std.specs.Prelude.{min}
use Rattle.std.proofs.lemmas.List.{take_rest}
use Rattle.xdm_items.specs.declared.items.Item.{Item}
use Rattle.item_functions.specs.SequenceFunctions.Positions.{before}
use Rattle.item_functions.proofs.SequenceFunctions.PositionLemmas.{from_place}
use Rattle.item_functions.proofs.SequenceFunctions.TestLemmas.{through}
use Rattle.item_functions.proofs.sequence_functions.positions.subsequence_from.Goals as goal

pub returns : goal.returns
returns c =
    let items = c.args.items.now in
    let first = c.before-first.result in
    let place : first ≡ min (before c.args.start) (length items) =
    c.before-first.ensures ∙ ap (λ z. min (before z) (length items)) (through c.args.start c.from.result c.ranges.start c.from.ensures) in
    let made = take_rest items first ∙ from_place items c.args.start first place in
    subst (λ (l : List Item). IfOk c.copied.result (λ part. part ≡ l)) made c.copied.ensures
