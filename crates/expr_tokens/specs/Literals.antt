-- What digits and literals are (XPath 2.0, 3.1.1 and A.2).
use Rattle.std.specs.Prelude.{ℕ, ◌+◌, ◌*◌, ℤ, pos, List, [], ◌∷◌, ◌++◌, Bool, false, not, ◌&&◌, ◌==◌, nat_le, Option, Some, None, if◌then◌else◌}
use Rattle.xt_names.specs.Characters.{digit}

-- the number of the digits, after what comes before them
unfoldable pub value : ℕ → List ℕ → ℕ
value n [] = n
value n (c ∷ cs) = value (10 * n + digit c) cs

unfoldable pub number_value : List ℕ → Option ℤ
number_value cs = if nat_le (value 0 cs) 9223372036854775807 then Some (pos (value 0 cs)) else None

-- what becomes of a character of a literal, after its opening quote, and where a quote stands directly before that may be
-- the first of two
abbrev pub piece : Option ℕ → Bool → ℕ → List ℕ
piece None doubling c = []
piece (Some q) doubling c = if doubling then c ∷ [] else if c == q then [] else c ∷ []

abbrev pub next_quote : Option ℕ → ℕ → Option ℕ
next_quote None c = Some c
next_quote (Some q) c = Some q

abbrev pub next_doubling : Option ℕ → Bool → ℕ → Bool
next_doubling None doubling c = false
next_doubling (Some q) doubling c = not doubling && (c == q)

unfoldable pub within_quotes : Option ℕ → Bool → List ℕ → List ℕ
within_quotes quote doubling [] = []
within_quotes quote doubling (c ∷ cs) = piece quote doubling c ++ within_quotes (next_quote quote c) (next_doubling quote doubling c) cs

-- the characters of a literal
unfoldable pub unquoted : List ℕ → List ℕ
unquoted cs = within_quotes None false cs
