-- Places in order are the places of the entries in order.
use Rattle.std.proofs.Common.{◌≡◌, ℕ, List, ap, sym, ◌∙◌}
use Rattle.std.specs.Prelude.{Bool, map}
use Rattle.std.specs.Ordering.{is_lt}
use Rattle.std.proofs.lemmas.Simd.{map-map}
use Rattle.order_group.specs.Rows.{Keyed, row_order, stands_before, in_order}
use Rattle.order_group.specs.Entries.{keyed_entry, keyed_entries}
use Rattle.order_group.specs.declared.sorts.Entry.{Entry}
use Rattle.order_group.proofs.Natural.{natural}
use Rattle.xt_names.specs.Lists.{stable_order}

pub places_in_order : (ds : List Bool) (es ys : List Entry) (places : List ℕ) (rows : List (Keyed ℕ)) → keyed_entries es ≡ rows → ys ≡ stable_order (λ x y. is_lt (row_order 0 ds x.row.now.cells y.row.now.cells)) es → places ≡ map (λ (e : Entry). e.place) ys → places ≡ in_order ds rows
places_in_order ds es ys places rows made order are =
    are
    ∙ ap (map (λ (e : Entry). e.place)) order
    ∙ sym (map-map (λ (row : Keyed ℕ). row.value) keyed_entry (stable_order (λ x y. is_lt (row_order 0 ds x.row.now.cells y.row.now.cells)) es))
    ∙ ap (map (λ (row : Keyed ℕ). row.value)) (sym (natural (stands_before ds) keyed_entry es))
    ∙ ap (in_order ds) made
