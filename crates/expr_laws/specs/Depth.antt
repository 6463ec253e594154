-- More calls left.
use Rattle.std.specs.Prelude.{◌+◌, ℕ}
use Rattle.xdm_items.specs.declared.items.Item.{Item}
use Rattle.expr_meaning.specs.Outcomes.Follow.{Follows, same_code}
use Rattle.expr_meaning.specs.Queries.{Run, query_outcome}

-- with more calls a query does what it does with these, unless these were too few
abbrev pub CallsChangeNothing : Run → Item → ℕ → ℕ → Type 0
CallsChangeNothing run document n more =
    (k : ℕ) → Follows same_code (query_outcome run document n k)
    (query_outcome run document (more + n) k)
