-- The characters of a text: without its byte order mark, and with one line feed at the end of each line (XML 1.0, 2.11).
use Rattle.std.specs.Prelude.{ℕ, zero, suc, ◌+◌, ◌-◌, List, [], ◌∷◌, length, Bool, true, false, ◌&&◌, ◌==◌, if◌then◌else◌}
use Rattle.std.specs.Char.{encode_utf8}

-- after a carriage return or not: a line feed directly after one belongs to it, and one alone is a line feed
abbrev pub lines_behind : Bool → List ℕ → List ℕ
lines_behind cr [] = []
lines_behind cr (c ∷ cs) =
    if c == 13 then 10 ∷ lines_behind true cs else if cr && c == 10 then lines_behind false cs else c ∷ lines_behind false cs

abbrev pub lines : List ℕ → List ℕ
lines cs = lines_behind false cs

-- the byte order mark
abbrev pub mark : ℕ
mark = 0xFEFF

abbrev pub without_mark : List ℕ → List ℕ
without_mark [] = []
without_mark (c ∷ cs) = if c == mark then cs else c ∷ cs

-- what a document's grammar reads of these characters
abbrev pub text_of : List ℕ → List ℕ
text_of cs = lines (without_mark cs)

abbrev pub bytes_of : ℕ → ℕ
bytes_of c = length (encode_utf8 c)

-- how many bytes come before the character of the text that so many others come before
abbrev pub bytes_before : Bool → List ℕ → ℕ → ℕ
bytes_before cr [] n = 0
bytes_before cr (c ∷ cs) zero = if cr && c == 10 then 1 else 0
bytes_before cr (c ∷ cs) (suc n) =
    if cr && c == 10 then 1 + bytes_before false cs (suc n) else bytes_of c + bytes_before (c == 13) cs n

abbrev pub mark_bytes : List ℕ → ℕ
mark_bytes [] = 0
mark_bytes (c ∷ cs) = if c == mark then 3 else 0

-- the byte at which a reading stands that has this rest of the text before it
abbrev pub offset : List ℕ → List ℕ → ℕ
offset cs rest = mark_bytes cs + bytes_before false (without_mark cs) (length (text_of cs) - length rest)
