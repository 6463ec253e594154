-- What a sort of key rows answers.
use Rattle.std.specs.Prelude.{◌≡◌, ℕ, suc, Bool, List, [], ◌∷◌, map, Some, None, Result, Ok, Err}
use Rattle.order_group.specs.Rows.{Row, Keyed, in_order, mixed_column}
use Rattle.order_group.specs.declared.sorts.KeyRow.{KeyRow}
use Rattle.order_group.specs.declared.sorts.SortFault.{SortFault}
use Rattle.order_group.specs.declared.sorts.SortFault.TheVariants.{Mixed, Memory}

abbrev pub cells_of : List KeyRow → List Row
cells_of rows = map (λ r. r.cells) rows

-- each row with its place
abbrev pub numbered : ℕ → List KeyRow → List (Keyed ℕ)
numbered i [] = []
numbered i (r ∷ rows) = record { cells = r.cells; value = i } ∷ numbered (suc i) rows

-- the places in the one stable order of the rows; Mixed exactly for the first column that has no order
abbrev pub IsSorted : List Bool → List KeyRow → Result (List ℕ) SortFault → Type 0
IsSorted ds rows (Ok places) = (mixed_column ds (cells_of rows) ≡ None) × (places ≡ in_order ds (numbered 0 rows))
IsSorted ds rows (Err (Mixed column)) = mixed_column ds (cells_of rows) ≡ Some column
IsSorted ds rows (Err (Memory e)) = Unit {0}
