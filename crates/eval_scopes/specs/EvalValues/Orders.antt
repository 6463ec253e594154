-- The places of rows in the order of their keys (XQuery 1.0, 3.8.3; XSLT 2.0, 13.1).
use Rattle.std.specs.Prelude.{ℕ, Bool, List, Option, Some, None, Result, Ok, Err}
use Rattle.xt_names.specs.declared.codes.Code.{Code}
use Rattle.order_group.specs.declared.sorts.KeyRow.{KeyRow}
use Rattle.order_group.specs.Rows.{mixed_column, in_order}
use Rattle.order_group.specs.Sorts.{cells_of, numbered}

abbrev pub unless_mixed : Option ℕ → Code → List ℕ → Result (List ℕ) Code
unless_mixed None mixed places = Ok places
unless_mixed (Some column) mixed places = Err mixed

abbrev pub places_in_order : Code → List Bool → List KeyRow → Result (List ℕ) Code
places_in_order mixed descending rows =
    unless_mixed (mixed_column descending (cells_of rows)) mixed
    (in_order descending (numbered 0 rows))
