-- Characters as they are written (Serialization, 5).
use Rattle.std.specs.Prelude.{ℕ, List, [], ◌∷◌, ◌++◌, Bool, true, ◌||◌, ◌&&◌, ◌==◌, nat_le, if◌then◌else◌, codes}
use Rattle.std.specs.Fmt.{digits}
use Rattle.std.specs.List.{flat_map}

-- the reference of a character by its number, as `&#x85;`
unfoldable pub reference : ℕ → List ℕ
reference c = codes "&#x" ++ digits 16 true c ++ codes ";"

-- #x7F to #x9F and #x2028 are written as references everywhere
abbrev pub is_control : ℕ → Bool
is_control c = (nat_le 0x7F c && nat_le c 0x9F) || c == 0x2028

-- `&` is 38, `<` is 60, `>` is 62
unfoldable pub text_char : ℕ → List ℕ
text_char c =
    if c == 38 then codes "&amp;"
    else (if c == 60 then codes "&lt;"
    else (if c == 62 then codes "&gt;"
    else (if c == 0xD || is_control c then reference c else c ∷ [])))

-- `"` is 34
unfoldable pub value_char : ℕ → List ℕ
value_char c =
    if c == 38 then codes "&amp;"
    else (if c == 60 then codes "&lt;"
    else (if c == 34 then codes "&quot;"
    else (if c == 0x9 || c == 0xA || c == 0xD || is_control c then reference c else c ∷ [])))

-- a text node
abbrev pub escaped_text : List ℕ → List ℕ
escaped_text t = flat_map text_char t

-- the value of an attribute, and the uri of a declaration
abbrev pub escaped_value : List ℕ → List ℕ
escaped_value t = flat_map value_char t
