-- The integer and the truth value that a text spells (XML Schema 2, 3.2.2 and 3.3.13; white space goes, 4.3.6).
use Rattle.std.specs.Prelude.{ℕ, List, [], ◌∷◌, Bool, true, false, ◌&&◌, ◌||◌, Option, Some, None, ℤ, pos, negsuc, nat_lt, ◌^◌, if◌then◌else◌, codes}
use Rattle.std.specs.Str.{bytes_eq, all_ascii_digits}
use Rattle.std.specs.Str.Parse.{without_leading_sign, signed_digits_value}
use Rattle.xt_names.specs.Marks.{is_white}

unfoldable pub without_leading_white : List ℕ → List ℕ
without_leading_white [] = []
without_leading_white (c ∷ cs) = if is_white c then without_leading_white cs else c ∷ cs

-- the text with one more character in front, which goes where it is white space and nothing follows
abbrev pub with_front : ℕ → List ℕ → List ℕ
with_front c [] = if is_white c then [] else c ∷ []
with_front c (d ∷ ds) = c ∷ d ∷ ds

unfoldable pub without_trailing_white : List ℕ → List ℕ
without_trailing_white [] = []
without_trailing_white (c ∷ cs) = with_front c (without_trailing_white cs)

unfoldable pub trimmed : List ℕ → List ℕ
trimmed text = without_trailing_white (without_leading_white text)

-- one decimal digit or more
abbrev pub is_numeral : List ℕ → Bool
is_numeral [] = false
is_numeral (c ∷ cs) = all_ascii_digits (c ∷ cs)

-- an integer has 64 bits
abbrev pub is_in_range : ℤ → Bool
is_in_range (pos n) = nat_lt n (2 ^ 63)
is_in_range (negsuc n) = nat_lt n (2 ^ 63)

-- the digits after an optional sign, and the integer in range
unfoldable pub spells_integer : List ℕ → Bool
spells_integer word = is_numeral (without_leading_sign word) && is_in_range (signed_digits_value 10 word)

unfoldable pub spelled_integer : List ℕ → Option ℤ
spelled_integer word = if spells_integer word then Some (signed_digits_value 10 word) else None

unfoldable pub integer_of : List ℕ → Option ℤ
integer_of text = spelled_integer (trimmed text)

unfoldable pub spelled_boolean : List ℕ → Option Bool
spelled_boolean word =
    if bytes_eq word (codes "true") || bytes_eq word (codes "1") then Some true
    else (if bytes_eq word (codes "false") || bytes_eq word (codes "0") then Some false
    else None)

unfoldable pub boolean_of : List ℕ → Option Bool
boolean_of text = spelled_boolean (trimmed text)
