use Rattle.std.proofs.Common.{◌≡◌, List, IfOk, map, ap, ◌∙◌, subst}
use Rattle.xdm_items.specs.declared.items.Item.{Item}
use Rattle.item_functions.specs.SequenceFunctions.Values.{entry_value}
use Rattle.item_functions.proofs.SequenceFunctions.ValueLemmas.{values_seen}
use Rattle.item_functions.proofs.sequence_functions.values.distinct_values.Goals as goal

pub returns : goal.returns
returns c =
    let made = ap (map entry_value) (c.as_slice.ensures.value ∙ c.into_entries-entries.ensures ∙ c.in_ok-table.ensures) ∙ values_seen c.args.atoms.now in
    subst (λ (l : List Item). IfOk c.values_of.result (λ values. values ≡ l)) made c.values_of.ensures
