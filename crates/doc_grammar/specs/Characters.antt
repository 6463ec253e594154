-- The classes of characters in a document (XML 1.0, 5th edition, 2.2 and 2.3; Namespaces in XML 1.0, 4).
use Rattle.std.specs.Prelude.{ℕ, suc, Bool, not, ◌&&◌, ◌==◌, ◌-◌, nat_le, if◌then◌else◌, Option, Some, None}
use Rattle.xt_names.specs.Characters.{is_space, is_char}

-- a character that stands for itself in text: neither `<` nor `&`
unfoldable pub is_text : ℕ → Bool
is_text c = is_char c && not (c == 60) && not (c == 38)

-- a character that stands for itself, or for a space, in an attribute value between two such quotes
unfoldable pub is_value : ℕ → ℕ → Bool
is_value quote c = is_text c && not (c == quote)

-- the character of the value that it stands for: white space is a space
unfoldable pub as_value : ℕ → ℕ
as_value c = if is_space c then 32 else c

abbrev pub is_colon : ℕ → Bool
is_colon c = c == 58

-- how many `]` come directly before what follows, where so many came before the character
unfoldable pub brackets_behind : ℕ → ℕ → ℕ
brackets_behind n c = if c == 93 then suc n else 0

-- a character of text that makes no `]]>` with the brackets before it
unfoldable pub may_stand : ℕ → ℕ → Bool
may_stand n c = is_text c && not (c == 62 && nat_le 2 n)

-- in which base the number of a reference is written
pub data Base : Type 0 where
  decimal : Base
  hexadecimal : Base

abbrev pub base_of : Base → ℕ
base_of decimal = 10
base_of hexadecimal = 16

abbrev pub is_between : ℕ → ℕ → ℕ → Bool
is_between low high c = nat_le low c && nat_le c high

-- the value of a digit
unfoldable pub digit : Base → ℕ → Option ℕ
digit decimal c = if is_between 48 57 c then Some (c - 48) else None
digit hexadecimal c =
    if is_between 48 57 c then Some (c - 48)
    else if is_between 97 102 c then Some (c - 87) else if is_between 65 70 c then Some (c - 55) else None

-- the greatest character
abbrev pub last_char : ℕ
last_char = 0x10_FFFF
