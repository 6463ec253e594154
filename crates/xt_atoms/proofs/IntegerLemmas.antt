-- The integer that a text spells, as `parse` reads it.
use Rattle.std.proofs.Common.{◌≡◌, ℕ, ◌<◌, ◌^◌, List, [], ◌∷◌, Bool, true, false, cond, Some, None, Result, Ok, Err, ℤ, pos, negsuc, drop, refl, sym, ap, ◌∙◌, nat_eq, arith, FitsSigned, w64, IfOk}
use Rattle.std.proofs.lemmas.Bool.{and_parts, and_from, eqb-true, ltb-true, lt-ltb}
use Rattle.std.proofs.lemmas.Str.{chars-IsAscii, encodes-IsAscii, encodes-chars}
use Rattle.std.proofs.lemmas.Str.Ascii.{IsAscii-nil, IsAscii-cons}
use Rattle.std.proofs.lemmas.Str.Parse.{tells_all_ascii_digits, IsNumeralModel, numerals_by_value}
use Rattle.std.proofs.lemmas.Fmt.{IsAscii-from_digits, IsAscii-signed}
use Rattle.std.specs.Fmt.{signed_decimal}
use Rattle.std.specs.Int.{cast_signed, cast_unsigned}
use Rattle.std.proofs.lemmas.Int.{to_z-of_z}
use Rattle.std.specs.Result.{result_ok}
use Rattle.std.specs.Str.{chars, IsUtf8, IsAscii, all_ascii_digits}
use Rattle.std.specs.Str.Parse.{ParsesSigned, IsNumeral, digits_value, without_leading_sign, signed_digits_value}
use Rattle.xt_atoms.specs.Lexical.{is_numeral, is_in_range, spells_integer, spelled_integer, integer_of, trimmed}

own : IsNumeralModel (λ ds. all_ascii_digits ds ≡ true) (digits_value 10)
own = numerals_by_value _ tells_all_ascii_digits

numeral_true : (ds : List ℕ) → IsNumeral 10 ds → is_numeral ds ≡ true
numeral_true [] h = absurd (omega (arith, h.0))
numeral_true (c ∷ cs) h = own.from (c ∷ cs) h.1

numeral_of : (ds : List ℕ) → is_numeral ds ≡ true → IsNumeral 10 ds
numeral_of [] h = cc
numeral_of (c ∷ cs) h = (omega arith, own.to (c ∷ cs) h)

pub range_true : (z : ℤ) → FitsSigned w64 z → is_in_range z ≡ true
range_true (pos n) f = lt-ltb n (2 ^ 63) f.sfits
range_true (negsuc n) f = lt-ltb n (2 ^ 63) f.sfits

pub range_of : (z : ℤ) → is_in_range z ≡ true → FitsSigned w64 z
range_of (pos n) e = record { sfits = ltb-true n (2 ^ 63) e }
range_of (negsuc n) e = record { sfits = ltb-true n (2 ^ 63) e }

pub spells_from : (word : List ℕ) → IsNumeral 10 (without_leading_sign word) → FitsSigned w64 (signed_digits_value 10 word) → spells_integer word ≡ true
unfolding spells_integer
spells_from word n f = and_from _ _ (numeral_true _ n) (range_true _ f)

pub spells_parts : (word : List ℕ) → spells_integer word ≡ true → IsNumeral 10 (without_leading_sign word) × FitsSigned w64 (signed_digits_value 10 word)
unfolding spells_integer
spells_parts word e =
    let p = and_parts (is_numeral (without_leading_sign word)) (is_in_range (signed_digits_value 10 word)) e in
    (numeral_of _ p.0, range_of _ p.1)

pub spelled : (word : List ℕ) → spells_integer word ≡ true → spelled_integer word ≡ Some (signed_digits_value 10 word)
unfolding spelled_integer
spelled word e = rw e refl

pub unspelled : (word : List ℕ) → spells_integer word ≡ false → spelled_integer word ≡ None
unfolding spelled_integer
unspelled word e = rw e refl

-- a sign and digits are ASCII
ascii_behind : (c : ℕ) (cs : List ℕ) (minus plus : Bool) → (minus ≡ true → c < 128) → (plus ≡ true → c < 128)
    → IsAscii (cond minus cs (drop (cond plus 1 0) (c ∷ cs))) → IsAscii (c ∷ cs)
ascii_behind c cs true plus m p a = IsAscii-cons c cs (m refl) a
ascii_behind c cs false true m p a = IsAscii-cons c cs (p refl) a
ascii_behind c cs false false m p a = a

ascii_word : (word : List ℕ) → IsAscii (without_leading_sign word) → IsAscii word
ascii_word [] a = IsAscii-nil
ascii_word (c ∷ cs) a =
    ascii_behind c cs (nat_eq c 45) (nat_eq c 43) (λ e. let f = eqb-true c 45 e in omega (arith, f)) (λ e. let f = eqb-true c 43 e in omega (arith, f)) a

ascii_spelled : (word : List ℕ) → spells_integer word ≡ true → IsAscii word
ascii_spelled word e = ascii_word word (IsAscii-from_digits _ (spells_parts word e).0.1)

-- so its characters are its bytes
by_characters : (bs : List ℕ) (x y : Bool) → IsUtf8 bs → spells_integer bs ≡ x → spells_integer (chars bs) ≡ y → spelled_integer bs ≡ spelled_integer (chars bs)
by_characters bs true y u e f = ap spelled_integer (sym (chars-IsAscii bs (ascii_spelled bs e)))
by_characters bs false true u e f =
    let a = encodes-IsAscii (chars bs) (ascii_spelled (chars bs) f) in
    ap spelled_integer (sym (encodes-chars bs u) ∙ a)
by_characters bs false false u e f = unspelled bs e ∙ sym (unspelled (chars bs) f)

parsed_bytes : {E : Type 0} (bs : List ℕ) (r : Result ℤ E) (x : Bool) → spells_integer bs ≡ x → ParsesSigned w64 10 bs r → result_ok r ≡ spelled_integer bs
parsed_bytes bs (Ok z) x e h = ap (λ (y : ℤ). Some y) h.1 ∙ sym (spelled bs (spells_from bs h.0.0 h.0.1))
parsed_bytes bs (Err f) true e h = absurd (h (spells_parts bs e))
parsed_bytes bs (Err f) false e h = sym (unspelled bs e)

-- what `parse` reads of the bytes is what the text spells by its characters
pub parsed : {E : Type 0} (bs text : List ℕ) (r : Result ℤ E) → IsUtf8 bs → chars bs ≡ trimmed text → ParsesSigned w64 10 bs r → result_ok r ≡ integer_of text
unfolding integer_of
parsed bs text r u t h =
    parsed_bytes bs r (spells_integer bs) refl h ∙ by_characters bs (spells_integer bs) (spells_integer (chars bs)) u refl refl ∙ ap spelled_integer t

-- what `to_string` writes of an integer is ASCII
pub written : {E : Type 0} (z : ℤ) (bs : List ℕ) (r : Result (List ℕ) E) → FitsSigned w64 z → bs ≡ signed_decimal (cast_signed w64 (cast_unsigned w64 z)) → IfOk r (λ t. t ≡ chars bs) → IfOk r (λ t. t ≡ signed_decimal z)
written z bs (Ok t) f e h = h ∙ ap chars (e ∙ ap signed_decimal (to_z-of_z w64 z f)) ∙ chars-IsAscii (signed_decimal z) (IsAscii-signed z f.sfits)
written z bs (Err x) f e h = tt
