use Rattle.std.proofs.Common.{◌≡◌, drop, true}
use Rattle.std.specs.Str.{chars}
use Rattle.function_table.specs.Find.{found_in}
use Rattle.function_table.specs.Rows.{rows_as, are_ascii}
use Rattle.function_table.proofs.look_up.found_in.Given as goal

abbrev pub invariant-loop-row : goal.invariant-loop-row
invariant-loop-row l =
    (found_in (rows_as (drop l.row-index l.rows)) (chars l.local) l.arity ≡ found_in (rows_as l.rows) (chars l.local) l.arity)
    × (are_ascii (drop l.row-index l.rows) ≡ true)
