-- Each number that digits have made so far can be completed to that of a character.
use Rattle.std.proofs.Common.{◌≡◌, ℕ, zero, suc, ◌+◌, ◌*◌, ◌<◌, ◌≤◌, List, [], ◌∷◌, ◌++◌, refl, arith, Bool, true, false, nat_lt, Some}
use Rattle.std.proofs.lemmas.Bool.{ltb-true, ltb-false}
use Rattle.xt_names.specs.Classes.{is_in_ranges}
use Rattle.doc_grammar.specs.Characters.{Base, decimal, hexadecimal, base_of, digit, last_char}
use Rattle.doc_grammar.specs.Lexemes.{Digits}
use Rattle.doc_grammar.specs.Lexemes as lexemes
use Rattle.xt_names.specs.Characters.{is_char}

low_char : (n : ℕ) → 32 ≤ n → n ≤ 0xD7FF → is_char n ≡ true
unfolding is_char is_in_ranges
low_char n a b = grind (arith)

high_char : (n : ℕ) → 0x1_0000 ≤ n → n ≤ last_char → is_char n ≡ true
unfolding is_char is_in_ranges
high_char n a b = grind (arith)

-- those between are surrogates, or the last two of their plane
not_char : (n : ℕ) → is_char n ≡ false → 32 ≤ n → n ≤ last_char → (0xD800 ≤ n) × (n ≤ 0xFFFF)
unfolding is_char is_in_ranges
not_char n e a b = (grind (arith), grind (arith))

-- what completes a number
pub record Completes (b : Base) (n : ℕ) : Type 0 where
  pub digits : List ℕ
  pub value : ℕ
  pub spelled : (rest : List ℕ) → Digits b n (digits ++ rest) value rest
  pub char : is_char value ≡ true

zero_decimal : digit decimal 48 ≡ Some 0
unfolding digit
zero_decimal = refl

zero_hexadecimal : digit hexadecimal 48 ≡ Some 0
unfolding digit
zero_hexadecimal = refl

zero_digit : (b : Base) → digit b 48 ≡ Some 0
zero_digit decimal = zero_decimal
zero_digit hexadecimal = zero_hexadecimal

-- as it is
as_is : (b : Base) (n : ℕ) → is_char n ≡ true → Completes b n
as_is b n p = record { digits = 59 ∷ []; value = n; spelled = λ rest. lexemes.whole; char = p }

-- with a zero
with_zero : (b : Base) (n : ℕ) → is_char (n * base_of b + 0) ≡ true → Completes b n
with_zero b n p = record { digits = 48 ∷ 59 ∷ []; value = n * base_of b + 0; spelled = λ rest. lexemes.more (zero_digit b) lexemes.whole; char = p }

-- with two
with_zeros : (b : Base) (n : ℕ) → is_char ((n * base_of b + 0) * base_of b + 0) ≡ true → Completes b n
with_zeros b n p = record { digits = 48 ∷ 48 ∷ 59 ∷ []; value = (n * base_of b + 0) * base_of b + 0; spelled = λ rest. lexemes.more (zero_digit b) (lexemes.more (zero_digit b) lexemes.whole); char = p }

from_zero : (b : Base) → Completes b 0
unfolding digit is_char is_in_ranges
from_zero decimal = record { digits = 54 ∷ 53 ∷ 59 ∷ []; value = 65; spelled = λ rest. lexemes.more refl (lexemes.more refl lexemes.whole); char = refl }
from_zero hexadecimal = record { digits = 52 ∷ 49 ∷ 59 ∷ []; value = 65; spelled = λ rest. lexemes.more refl (lexemes.more refl lexemes.whole); char = refl }

-- small numbers
from_small : (b : Base) (n : ℕ) → 1 ≤ n → n < 32 → Completes b n
from_small decimal n a h = with_zeros decimal n (low_char _ (omega arith) (omega arith))
from_small hexadecimal n a h = with_zeros hexadecimal n (low_char _ (omega arith) (omega arith))

-- numbers of no character
from_none : (b : Base) (n : ℕ) → (0xD800 ≤ n) × (n ≤ 0xFFFF) → Completes b n
from_none decimal n h = let low = h.0 in let high = h.1 in with_zero decimal n (high_char _ (omega arith) (omega arith))
from_none hexadecimal n h = let low = h.0 in let high = h.1 in with_zero hexadecimal n (high_char _ (omega arith) (omega arith))

pub completes : (b : Base) (n : ℕ) → n ≤ last_char → Completes b n
completes b zero h = from_zero b
completes b (suc n) h = go (is_char (suc n)) refl (nat_lt (suc n) 32) refl where
  go : (p : Bool) → is_char (suc n) ≡ p → (q : Bool) → nat_lt (suc n) 32 ≡ q → Completes b (suc n)
  go true p q e = as_is b (suc n) p
  go false p true e = from_small b (suc n) (omega arith) (ltb-true _ _ e)
  go false p false e = from_none b (suc n) (not_char (suc n) p (ltb-false _ _ e) h)

-- a digit is less than its base
pub digit_low : (b : Base) (c d : ℕ) → digit b c ≡ Some d → d < base_of b
unfolding digit
digit_low decimal c d e = grind (arith)
digit_low hexadecimal c d e = grind (arith)
