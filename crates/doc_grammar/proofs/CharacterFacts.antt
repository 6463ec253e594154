-- Which characters are of which class.
use Rattle.std.proofs.Common.{◌≡◌, ℕ, ◌≤◌, [], arith, Bool, true, false, ◌&&◌, None, refl, eq-eqb}
use Rattle.xt_names.specs.Classes.{is_in_ranges}
use Rattle.doc_grammar.specs.Characters.{is_text, is_value, may_stand, Base, decimal, hexadecimal, digit, last_char}
use Rattle.std.proofs.Math.Bool.{and-false}
use Rattle.xt_names.proofs.CharacterLemmas.{space_cases}
use Rattle.xt_names.specs.Characters.{is_space, is_char, is_quote, starts_name, is_name_char}

pub open_stands : (n : ℕ) → may_stand n 60 ≡ false
unfolding may_stand is_text is_char is_in_ranges
open_stands n = refl

pub ampersand_stands : (n : ℕ) → may_stand n 38 ≡ false
unfolding may_stand is_text is_char is_in_ranges
ampersand_stands n = refl

pub bracket_char : is_char 93 ≡ true
unfolding is_char is_in_ranges
bracket_char = refl

pub dash_char : is_char 45 ≡ true
unfolding is_char is_in_ranges
dash_char = refl

pub mark_char : is_char 63 ≡ true
unfolding is_char is_in_ranges
mark_char = refl

pub slash_starts : starts_name 47 ≡ false
unfolding starts_name is_in_ranges
slash_starts = refl

pub close_starts : starts_name 62 ≡ false
unfolding starts_name is_in_ranges
close_starts = refl

pub bang_starts : starts_name 33 ≡ false
unfolding starts_name is_in_ranges
bang_starts = refl

pub mark_starts : starts_name 63 ≡ false
unfolding starts_name is_in_ranges
mark_starts = refl

pub a_starts : starts_name 97 ≡ true
unfolding starts_name is_in_ranges
a_starts = refl

pub x_starts : starts_name 120 ≡ true
unfolding starts_name is_in_ranges
x_starts = refl

pub a_name : is_name_char 97 ≡ true
unfolding is_name_char is_in_ranges
a_name = refl

pub m_name : is_name_char 109 ≡ true
unfolding is_name_char is_in_ranges
m_name = refl

pub l_name : is_name_char 108 ≡ true
unfolding is_name_char is_in_ranges
l_name = refl

pub slash_space : is_space 47 ≡ false
unfolding is_space
slash_space = refl

pub close_space : is_space 62 ≡ false
unfolding is_space
close_space = refl

pub open_space : is_space 60 ≡ false
unfolding is_space
open_space = refl

pub equals_space : is_space 61 ≡ false
unfolding is_space
equals_space = refl

pub mark_space : is_space 63 ≡ false
unfolding is_space
mark_space = refl

pub slash_name : is_name_char 47 ≡ false
unfolding is_name_char is_in_ranges
slash_name = refl

pub equals_name : is_name_char 61 ≡ false
unfolding is_name_char is_in_ranges
equals_name = refl

pub mark_name : is_name_char 63 ≡ false
unfolding is_name_char is_in_ranges
mark_name = refl

pub double_quote : is_quote 34 ≡ true
unfolding is_quote
double_quote = refl

pub ampersand_quote : is_quote 38 ≡ false
unfolding is_quote
ampersand_quote = refl

pub semicolon_digit : (b : Base) → digit b 59 ≡ None
unfolding digit
semicolon_digit decimal = refl
semicolon_digit hexadecimal = refl

pub x_digit : digit decimal 120 ≡ None
unfolding digit
x_digit = refl

pub both : {a b : Bool} → (a && b) ≡ true → (a ≡ true) × (b ≡ true)
both {a = true} e = (refl, e)
both {a = false} e = absurd (cc)

pub quote_value : (quote : ℕ) → is_value quote quote ≡ false
unfolding is_value
quote_value quote = rw (eq-eqb quote quote refl) (and-false (is_text quote))

pub ampersand_value : (quote : ℕ) → is_value quote 38 ≡ false
unfolding is_value is_text is_char is_in_ranges
ampersand_value quote = refl

space_32 : starts_name 32 ≡ false
unfolding starts_name is_in_ranges
space_32 = refl

space_9 : starts_name 9 ≡ false
unfolding starts_name is_in_ranges
space_9 = refl

space_10 : starts_name 10 ≡ false
unfolding starts_name is_in_ranges
space_10 = refl

space_13 : starts_name 13 ≡ false
unfolding starts_name is_in_ranges
space_13 = refl

-- no name starts with white space
pub space_starts : (c : ℕ) → is_space c ≡ true → starts_name c ≡ false
space_starts c s = let P : ℕ → Type 0 = λ x. starts_name x ≡ false in space_cases P c space_32 space_9 space_10 space_13 s

-- white space is text
pub space_text : (c : ℕ) → is_space c ≡ true → is_text c ≡ true
unfolding is_text is_char is_in_ranges
space_text c s = let P : ℕ → Type 0 = λ x. is_text x ≡ true in space_cases P c refl refl refl refl s

-- no character is greater than the last
pub char_low : (c : ℕ) → is_char c ≡ true → c ≤ last_char
unfolding is_char is_in_ranges
char_low c h = grind (arith)
