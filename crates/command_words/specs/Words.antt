-- Words of a command line, each as its bytes, and what each may be by itself.
use Rattle.std.specs.Prelude.{◌==◌, ℕ, List, [], ◌∷◌, Bool, false, ◌||◌, not, Option, None, Some}
use Rattle.std.specs.Prelude.{codes, if◌then◌else◌}
use Rattle.std.specs.Str.{bytes_eq}

abbrev pub Words : Type 0
Words = List (List ℕ)

-- the first byte is `-`, whose code is 45
abbrev pub begins_with_dash : List ℕ → Bool
begins_with_dash [] = false
begins_with_dash (c ∷ cs) = c == 45

-- a word that is no option: a lone `-`, or one that does not begin with `-`
abbrev pub is_operand : List ℕ → Bool
is_operand word = bytes_eq word (codes "-") || not (begins_with_dash word)

-- what comes after the front in a word that begins with it
abbrev pub behind : List ℕ → List ℕ → Option (List ℕ)
behind [] word = Some word
behind (f ∷ front) [] = None
behind (f ∷ front) (c ∷ word) = if c == f then behind front word else None
