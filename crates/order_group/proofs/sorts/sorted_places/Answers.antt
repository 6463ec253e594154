use Rattle.std.proofs.Common.{◌∙◌, ap}
use Rattle.std.specs.Prelude.{map}
use Rattle.order_group.proofs.Places.{places_in_order}
use Rattle.order_group.proofs.sorts.sorted_places.Goals as goal

pub returns : goal.returns
returns c =
    places_in_order c.args.descending.now c.in_ok-entries.entries.items _ _ _ c.in_ok-entries.ensures c.in_ok-sort_entries.ensures
    (c.in_ok-places.ensures ∙ ap (map _) c.as_slice.ensures.value)
