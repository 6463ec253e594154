-- The table in the code.
use Rattle.std.specs.Prelude.{List, map, Bool, ◌&&◌}
use Rattle.sheet_table.specs.Texts.{are_ascii}
use Rattle.sheet_table.specs.Rows as table
use Rattle.sheet_table.specs.declared.rows.Row.{Row}

-- a row as the table has it
abbrev pub row_as : Row → table.Row
row_as r = table.row (map (λ n. n.now) r.0.now) (map (λ n. n.now) r.1.now) (map (λ n. n.now) r.2.now)

-- each name has ASCII characters alone
abbrev pub is_ascii_row : Row → Bool
is_ascii_row r =
    are_ascii (map (λ n. n.now) r.0.now) && are_ascii (map (λ n. n.now) r.1.now) && are_ascii (map (λ n. n.now) r.2.now)
