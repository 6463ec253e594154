-- The classes of characters that documents and expressions share (XML 1.0, 2.2 and 2.3; Namespaces in XML 1.0, 3).
use Rattle.std.specs.Prelude.{◌≡◌, ℕ, List, [], ◌∷◌, Bool, false, ◌||◌, ◌==◌, ◌-◌}
use Rattle.std.specs.List.{list_any}
use Rattle.xt_names.specs.Classes.{is_in_ranges, xml_char_ranges, ncname_start_ranges, ncname_char_ranges}

-- white space (production S)
unfoldable pub is_space : ℕ → Bool
is_space c = c == 32 || c == 9 || c == 10 || c == 13

-- production Char
unfoldable pub is_char : ℕ → Bool
is_char c = is_in_ranges xml_char_ranges c

-- the first character of a name without a colon, and the others
unfoldable pub starts_name : ℕ → Bool
starts_name c = is_in_ranges ncname_start_ranges c

unfoldable pub is_name_char : ℕ → Bool
is_name_char c = is_in_ranges ncname_char_ranges c

unfoldable pub is_quote : ℕ → Bool
is_quote c = c == 34 || c == 39

-- the value of a decimal digit
abbrev pub digit : ℕ → ℕ
digit c = c - 48

-- what a printed text gives by reference: & < > " ' and white space
abbrev pub is_referred : ℕ → Bool
is_referred c =
    list_any (λ d. c == d) (38 ∷ 60 ∷ 62 ∷ 34 ∷ 39 ∷ 9 ∷ 10 ∷ 13 ∷ 32 ∷ [])

-- no character of the class comes next
abbrev pub Ends : (ℕ → Bool) → List ℕ → Type 0
Ends p [] = Unit {0}
Ends p (c ∷ ts) = p c ≡ false

-- the character does not come next
abbrev pub NotNext : ℕ → List ℕ → Type 0
NotNext c [] = Unit {0}
NotNext c (d ∷ ts) = c ≡ d → ⊥
