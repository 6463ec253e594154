-- The classes of characters that tokens are made of (XML 1.0, 2.2 and 2.3; Namespaces in XML 1.0,
-- 3; XPath 2.0, A.2).
use Rattle.std.specs.Prelude.{ℕ, List, [], ◌∷◌, Bool, ◌&&◌, ◌==◌, nat_le}
use Rattle.std.specs.List.{list_any}

-- 0 to 9
unfoldable pub is_digit : ℕ → Bool
is_digit c = nat_le 48 c && nat_le c 57

-- the symbols of one character: ( ) [ ] { } , . / @ | + - * = < > $ ? ;
abbrev pub singles : List ℕ
singles =
    40 ∷ 41 ∷ 91 ∷ 93 ∷ 123 ∷ 125 ∷ 44 ∷ 46 ∷ 47 ∷ 64
    ∷ 124 ∷ 43 ∷ 45 ∷ 42 ∷ 61 ∷ 60 ∷ 62 ∷ 36 ∷ 63 ∷ 59 ∷ []

unfoldable pub is_single : ℕ → Bool
is_single c = list_any (λ s. c == s) singles

-- the symbols of two characters: .. // :: := != <= << >= >>
abbrev pub doubles : List (ℕ × ℕ)
doubles =
    (46, 46) ∷ (47, 47) ∷ (58, 58) ∷ (58, 61) ∷ (33, 61)
    ∷ (60, 61) ∷ (60, 60) ∷ (62, 61) ∷ (62, 62) ∷ []

unfoldable pub is_double : ℕ → ℕ → Bool
is_double c d = list_any (λ s. c == s.0 && d == s.1) doubles
