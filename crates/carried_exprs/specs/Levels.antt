-- How many levels more an expression nests where it is carried.
use Rattle.std.specs.Prelude.{ℕ}
use Rattle.carried_exprs.specs.Sights.{Sight, named, focused, absent}

abbrev pub levels_added : Sight → ℕ
levels_added named = 2
levels_added focused = 0
levels_added absent = 0
