-- The prefixes that are known to be written.
use Rattle.std.specs.Prelude.{◌≡◌, ℕ, ◌≤◌, List, length, take, Bool}
use Rattle.std.specs.List.{list_any}
use Rattle.std.specs.Str.{bytes_eq}

-- a table has the first so many prefixes of a list
pub record AreKnown (prefixes : List (List ℕ)) (known : List ℕ → Bool) (count : ℕ) : Type 0 where
  pub within : count ≤ length prefixes
  pub table : (prefix : List ℕ) → known prefix ≡ list_any (λ p. bytes_eq p prefix) (take count prefixes)
