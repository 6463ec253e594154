-- A text of a list.
use Rattle.std.specs.Prelude.{ℕ, List, Bool}
use Rattle.std.specs.List.{list_any}
use Rattle.std.specs.Str.{bytes_eq}

abbrev pub is_one_of : List ℕ → List (List ℕ) → Bool
is_one_of text names = list_any (bytes_eq text) names
