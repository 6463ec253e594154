-- Line ends, one character at a time.
use Rattle.std.specs.Prelude.{ℕ, ◌+◌, List, [], ◌∷◌, Bool, ◌&&◌, ◌==◌, if◌then◌else◌}
use Rattle.doc_grammar.specs.Lines.{bytes_of}

-- what a character says, after a carriage return or not
abbrev pub line_of : Bool → ℕ → List ℕ
line_of cr c = if c == 13 then 10 ∷ [] else if cr && c == 10 then [] else c ∷ []

-- how many bytes the characters take
abbrev pub size_of : List ℕ → ℕ
size_of [] = 0
size_of (c ∷ cs) = bytes_of c + size_of cs
