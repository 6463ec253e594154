-- The rows of the table in the code.
use Rattle.std.specs.Prelude.{List, map, Bool, nat_lt}
use Rattle.std.specs.List.{list_all}
use Rattle.function_table.specs.declared.rows.Row.{Row as RowOfCode}
use Rattle.function_table.specs.Table.{Row}

-- a row as the table has it
abbrev pub row_of : RowOfCode → Row
row_of r = record { name = r.0.now; builtin = r.1; least = r.2; greatest = r.3 }

abbrev pub rows_as : List RowOfCode → List Row
rows_as rows = map row_of rows

-- each name has ASCII characters alone
abbrev pub are_ascii : List RowOfCode → Bool
are_ascii rows = list_all (λ r. list_all (λ b. nat_lt b 128) r.0.now) rows
