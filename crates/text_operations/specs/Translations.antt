-- Characters replaced by others (XQuery 1.0 and XPath 2.0 Functions and Operators, 7.4.9).
use Rattle.std.specs.Prelude.{ℕ, List, [], ◌∷◌, ◌++◌, ◌==◌, Option, Some, None, if◌then◌else◌}
use Rattle.std.specs.Option.{option_to_list}

-- the first character, and the others
abbrev pub first_of : List ℕ → Option ℕ
first_of [] = None
first_of (c ∷ cs) = Some c

abbrev pub others_of : List ℕ → List ℕ
others_of [] = []
others_of (c ∷ cs) = cs

-- what becomes of a character: where it stands first in the map, there stands its partner; with no partner there it goes
unfoldable pub partner : List ℕ → List ℕ → ℕ → Option (Option ℕ)
partner [] to c = None
partner (f ∷ from) to c = if c == f then Some (first_of to) else partner from (others_of to) c

-- a character that is not in the map stays
abbrev pub replaced : Option (Option ℕ) → ℕ → List ℕ
replaced None c = c ∷ []
replaced (Some found) c = option_to_list found

unfoldable pub translated : List ℕ → List ℕ → List ℕ → List ℕ
translated from to [] = []
translated from to (c ∷ cs) = replaced (partner from to c) c ++ translated from to cs
