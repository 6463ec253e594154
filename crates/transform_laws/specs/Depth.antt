-- More calls left.
use Rattle.std.specs.Prelude.{◌+◌, ℕ}
use Rattle.expr_meaning.specs.Outcomes.Follow.{Follows, same_code}
use Rattle.transform_meaning.specs.Sheets.{transform_outcome}
use Rattle.transform_meaning.specs.Templates.{Run}

-- with more calls a stylesheet does what it does with these, unless these were too few
abbrev pub CallsChangeNothing : Run → ℕ → ℕ → Type 0
CallsChangeNothing run n more =
    Follows same_code (transform_outcome run n) (transform_outcome run (more + n))
