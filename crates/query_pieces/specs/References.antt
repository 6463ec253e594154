-- References to characters (XML 1.0, 4.1 and 4.6; XQuery 1.0, 3.1.1).
use Rattle.std.specs.Prelude.{ℕ, ◌+◌, ◌*◌, ◌-◌, List, [], ◌∷◌, Bool, ◌&&◌, ◌||◌, nat_le, Option}
use Rattle.std.specs.Prelude.{Some, None, if◌then◌else◌, codes}
use Rattle.std.specs.Str.{bytes_eq}
use Rattle.xpath_lex.specs.Classes.{is_digit}
use Rattle.query_pieces.specs.Fronts.{run_of, rest_of, eaten}
pub use Rattle.query_pieces.specs.declared.references.Base.{Base}
pub use Rattle.query_pieces.specs.declared.references.Base.TheVariants.{
  Decimal as decimal,
  Hexadecimal as hexadecimal,
}
use Rattle.xt_names.specs.Characters.{is_char, is_name_char}

-- the character that the predefined entity is
abbrev pub entity : List ℕ → Option ℕ
entity name =
    if bytes_eq name (codes "lt") then Some 60
    else if bytes_eq name (codes "gt") then Some 62
    else if bytes_eq name (codes "amp") then Some 38
    else if bytes_eq name (codes "quot") then Some 34
    else if bytes_eq name (codes "apos") then Some 39 else None

abbrev pub base_of : Base → ℕ
base_of decimal = 10
base_of hexadecimal = 16

-- [0-9], or [0-9a-fA-F]
unfoldable pub is_hexadecimal : ℕ → Bool
is_hexadecimal c = is_digit c || (nat_le 97 c && nat_le c 102) || (nat_le 65 c && nat_le c 70)

abbrev pub is_digit_of : Base → ℕ → Bool
is_digit_of decimal c = is_digit c
is_digit_of hexadecimal c = is_hexadecimal c

-- what a digit counts
unfoldable pub digit : ℕ → ℕ
digit c = if nat_le c 57 then c - 48 else if nat_le c 70 then c - 55 else c - 87

-- the number of the digits, after what comes before them
unfoldable pub value : Base → ℕ → List ℕ → ℕ
value base n [] = n
value base n (c ∷ cs) = value base (n * base_of base + digit c) cs

abbrev pub char_of : ℕ → Option ℕ
char_of n = if is_char n then Some n else None

-- the character of these digits; without digits there is none
abbrev pub numbered : Base → List ℕ → Option ℕ
numbered base [] = None
numbered base (c ∷ cs) = char_of (value base 0 (c ∷ cs))

-- a reference ends with ';'
abbrev pub closed : Option ℕ → Option (List ℕ) → Option (ℕ × List ℕ)
closed (Some c) (Some rest) = Some (c, rest)
closed (Some c) None = None
closed None rest = None

-- PredefinedEntityRef ::= "&" ("lt" | "gt" | "amp" | "quot" | "apos") ";", after its '&'
abbrev pub entity_at : List ℕ → Option (ℕ × List ℕ)
entity_at ts = closed (entity (run_of is_name_char ts)) (eaten 59 (rest_of is_name_char ts))

-- CharRef ::= "&#" [0-9]+ ";" | "&#x" [0-9a-fA-F]+ ";", after '&#' or '&#x'
abbrev pub number_at : Base → List ℕ → Option (ℕ × List ℕ)
number_at base ts =
    closed (numbered base (run_of (is_digit_of base) ts)) (eaten 59 (rest_of
    (is_digit_of base) ts))

abbrev pub number_from : Option (List ℕ) → List ℕ → Option (ℕ × List ℕ)
number_from None ts = number_at decimal ts
number_from (Some more) ts = number_at hexadecimal more

abbrev pub reference_from : Option (List ℕ) → List ℕ → Option (ℕ × List ℕ)
reference_from None ts = entity_at ts
reference_from (Some more) ts = number_from (eaten 120 more) more

-- PredefinedEntityRef | CharRef, after its '&': the character that it is, and what is left
abbrev pub reference_at : List ℕ → Option (ℕ × List ℕ)
reference_at ts = reference_from (eaten 35 ts) ts
