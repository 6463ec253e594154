-- Rows in their places.
use Rattle.std.specs.Prelude.{ℕ, List, map}
use Rattle.order_group.specs.Rows.{Keyed}
use Rattle.order_group.specs.declared.sorts.Entry.{Entry}

abbrev pub keyed_entry : Entry → Keyed ℕ
keyed_entry e = record { cells = e.row.now.cells; value = e.place }

abbrev pub keyed_entries : List Entry → List (Keyed ℕ)
keyed_entries es = map keyed_entry es
