-- References by number are read as the character that they are written for.
use Rattle.std.proofs.Common.{◌≡◌, ℕ, ◌+◌, ◌*◌, ◌/◌, ◌%◌, ◌<◌, ◌≤◌, List, ◌∷◌, ◌++◌, true, Some, refl, sym, subst, arith, ◌&&◌, ◌==◌, ⊎_elim}
use Rattle.std.specs.Prelude.{nat_le}
use Rattle.std.proofs.lemmas.Bool.{or_cases, and_parts, leb-true, eqb-true}
use Rattle.std.specs.Fmt.{digits, digit_glyph}
use Rattle.std.proofs.lemmas.Fmt.{hex_one_digit, hex_two_digits}
use Rattle.std.proofs.lemmas.Bool.Decides.{nat_tests}
use Rattle.xt_names.specs.Classes.{is_in_ranges}
use Rattle.doc_grammar.specs.Characters.{hexadecimal, digit}
use Rattle.doc_grammar.specs.Lexemes.{Reference}
use Rattle.doc_grammar.specs.Lexemes as lexemes
use Rattle.doc_writer.specs.Escapes.{reference, is_control}
use Rattle.xt_names.specs.Characters.{is_char}

-- a reference that stands for the character, before this rest
pub record StandsFor (c : ℕ) (written rest : List ℕ) : Type 0 where
  pub ts : List ℕ
  pub begins : written ≡ 38 ∷ ts
  pub reads : Reference ts c rest

glyph_digit : (d : ℕ) → d < 16 → digit hexadecimal (digit_glyph true d) ≡ Some d
unfolding digit
glyph_digit d h = grind (arith, nat_tests)

pub short_reference : (c : ℕ) (rest : List ℕ) → c < 16 → is_char c ≡ true → StandsFor c (reference c ++ rest) rest
unfolding reference
short_reference c rest h p = record {
  ts = 35 ∷ 120 ∷ digit_glyph true c ∷ 59 ∷ rest;
  begins = rw (hex_one_digit true c h) refl;
  reads = lexemes.by_hexadecimal (glyph_digit c h) lexemes.whole p;
}

two_digits : (c : ℕ) → c / 16 * 16 + c % 16 ≡ c
two_digits c = omega arith

pub long_reference : (c : ℕ) (rest : List ℕ) → 16 ≤ c → c < 256 → is_char c ≡ true → StandsFor c (reference c ++ rest) rest
unfolding reference
long_reference c rest low high p =
    let e = two_digits c in
    let P : ℕ → Type 0 = λ x. Reference (35 ∷ 120 ∷ digit_glyph true (c / 16) ∷ digit_glyph true (c % 16) ∷ 59 ∷ rest) x rest in
    record {
      ts = 35 ∷ 120 ∷ digit_glyph true (c / 16) ∷ digit_glyph true (c % 16) ∷ 59 ∷ rest;
      begins = rw (hex_two_digits true c low high) refl;
      reads = subst P e (lexemes.by_hexadecimal (glyph_digit (c / 16) (omega arith)) (lexemes.more (glyph_digit (c % 16) (omega arith)) lexemes.whole) (rw e p));
    }

pub separator_reference : (rest : List ℕ) → StandsFor 0x2028 (reference 0x2028 ++ rest) rest
unfolding reference digits digit is_char is_in_ranges
separator_reference rest = record {
  ts = 35 ∷ 120 ∷ 50 ∷ 48 ∷ 50 ∷ 56 ∷ 59 ∷ rest;
  begins = refl;
  reads = lexemes.by_hexadecimal refl (lexemes.more refl (lexemes.more refl (lexemes.more refl lexemes.whole))) refl;
}

-- the characters that are written so everywhere
pub control_reference : (c : ℕ) (rest : List ℕ) → is_control c ≡ true → is_char c ≡ true → StandsFor c (reference c ++ rest) rest
control_reference c rest h p = ⊎_elim low high (or_cases (nat_le 0x7F c && nat_le c 0x9F) (c == 0x2028) h)
  where
    low : (nat_le 0x7F c && nat_le c 0x9F) ≡ true → StandsFor c (reference c ++ rest) rest
    low e =
        let parts = and_parts (nat_le 0x7F c) (nat_le c 0x9F) e in
        let above = leb-true 0x7F c parts.0 in
        let below = leb-true c 0x9F parts.1 in
        long_reference c rest (omega arith) (omega arith) p

    high : (c == 0x2028) ≡ true → StandsFor c (reference c ++ rest) rest
    high e = let P : ℕ → Type 0 = λ x. StandsFor x (reference x ++ rest) rest in subst P (sym (eqb-true c 0x2028 e)) (separator_reference rest)
