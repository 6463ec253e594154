use Rattle.std.proofs.Common.{◌/◌, length, refl, ap₂, ◌∙◌}
use Rattle.key_index.specs.Merges.{merged}
use Rattle.key_index.proofs.Tables.{none_has, one_has, halves_have, if_ok}
use Rattle.key_index.proofs.MergeLemmas.{to_end}
use Rattle.key_index.proofs.merges.+places_among.Goals as goal

pub returns-in-empty : goal.returns-in-empty
returns-in-empty t c = λ pairs _. none_has c.args.keys.now c.new.result.items c.in-empty.len_below c.new.ensures.items pairs

pub returns-in-len1 : goal.returns-in-len1
returns-in-len1 t c =
    if_ok c.places_under.result
    (λ made h pairs. one_has c.args.table.now c.args.keys.now c.key-item.result made.items c.in-len1.len_at_least c.in-len1.len_below c.key-item.is h pairs)
    c.places_under.ensures

pub returns-in_ok-second-in_default : goal.returns-in_ok-second-in_default
returns-in_ok-second-in_default t c =
    if_ok c.merged.result
    (λ made h pairs e. halves_have c.args.keys.now _ _
    (length c.args.keys.now / 2) made.items _ _ pairs
    (h ∙ ap₂ merged c.as_slice.ensures.value c.as_slice-in_default.ensures.value) refl
    (to_end c.args.keys.now (length c.args.keys.now / 2))
    (c.in_ok-first-in_default.ensures pairs e) (c.in_ok-second-in_default.ensures pairs e))
    c.merged.ensures
