-- White space normalized (XQuery 1.0 and XPath 2.0 Functions and Operators, 7.4.5).
use Rattle.std.specs.Prelude.{ℕ, List, [], ◌∷◌, ◌++◌, Bool, false, if◌then◌else◌}
use Rattle.xt_names.specs.Marks.{is_white}
use Rattle.xt_atoms.specs.Lexical.{trimmed}

-- what a character becomes: white space after white space goes, and other white space is one space
abbrev pub spaced : Bool → ℕ → List ℕ
spaced after_white c = if is_white c then (if after_white then [] else 32 ∷ []) else c ∷ []

-- each run of white space as one space
unfoldable pub collapsed : Bool → List ℕ → List ℕ
collapsed after_white [] = []
collapsed after_white (c ∷ cs) = spaced after_white c ++ collapsed (is_white c) cs

-- no white space at the ends, and each run of it one space
unfoldable pub normalized : List ℕ → List ℕ
normalized text = collapsed false (trimmed text)
